use Rattle.std.proofs.Common.{◌≡◌, Option, Some, subst}
use Rattle.std.specs.Prelude.{IfSome}
use Rattle.blend_rules.specs.Colour.{clear}
use Rattle.primitives.specs.declared.kind.Kind.TheVariants as kind
use Rattle.primitives.specs.PrimitiveModel.{PrimitiveModel}
use Rattle.slice_bench.proofs.Made.{solid_top}
use Rattle.slice_bench.proofs.top.Goals as goal

pub returns : goal.returns
returns c =
    let p : PrimitiveModel = record { kind = kind.Solid clear; rect = c.rect.result; clips = c.in_ok-clips.field-0 } in
    let is : c.unwrap-solid.result ≡ p = subst (λ (o : Option PrimitiveModel). IfSome o (λ q. q ≡ p)) c.unwrap-solid.ensures c.new.ensures.value in
    solid_top (Some (0, c.args.scroll)) c.in_ok-homes.field-0 c.push.new.self c.new-entries.result c.unwrap-solid.result clear c.rect.result c.in_ok-clips.field-0 c.args.count c.in_ok-push.ensures.ok c.new-entries.ensures is
    c.in_ok-homes.ensures c.in_ok-clips.ensures.count c.rect.ensures c.in_ok-clips.ensures.close
