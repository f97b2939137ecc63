use Rattle.std.proofs.Common.{ℕ, List, ◌+◌, ◌-◌, ◌++◌, ap, ◌∙◌, arith}
use Rattle.std.specs.List.{flat_map}
use Rattle.record_frame.specs.Transactions.{input_magic}
use Rattle.file_generator.specs.Files.{Generating, framed, payloads}
use Rattle.file_generator.proofs.FileBytes.{one_framed}
use Rattle.file_generator.proofs.generator.generate.Goals as goal

pub loop-preserved : goal.loop-preserved
loop-preserved c = record {
  put =
      one_framed (input_magic ++ flat_map framed (payloads c.args.number c.args.count)) c.loop.out.items c.put_framed.new.out.items c.loop.generator c.put_next.new.self
      c.put_next.new.payload.items (c.args.count - c.loop.counter) (c.args.count - (c.loop.counter + 1)) (omega arith)
      c.in_ok-put_next.ensures.payload c.in_ok-put_next.ensures.after
      (c.in_ok-put_framed.ensures ∙ ap (λ (p : List ℕ). c.loop.out.items ++ framed p) c.as_slice.ensures.value) c.loop.invariant.put;
  next = ap (λ (g : Generating). g.next) c.in_ok-put_next.ensures.after ∙ ap (λ (n : ℕ). n + 1) c.loop.invariant.next;
  last = omega arith;
}
