use Rattle.std.proofs.Common.{ℕ, List, ◌∷◌, ◌+◌, ◌≡◌, ◌<◌, ◌≤◌, length, drop, get_or, subst, ap, sym, ◌∙◌, arith}
use Rattle.std.proofs.lemmas.List.{drop_more, drop_all}
use Rattle.primitives.specs.declared.entry.Entry.{Entry}
use Rattle.tile_records.specs.Dirt.{no_id}
use Rattle.tile_records.specs.Interning.{ids_keys}
use Rattle.tile_records.specs.Passing.{IsFresh, HasPassed, state}
use Rattle.tile_records.proofs.Passes.{pass_start, pass_step, pass_end}
use Rattle.tile_records.proofs.pass.picked_by_tile.Goals as goal

pub loop-number-init : goal.loop-number-init
loop-number-init c =
    pass_start c.args.tiles.now c.args.entries.now (ids_keys c.args.ids.now) (state c.in_ok-pass.pass) c.requires.balanced
    (subst (λ (n : ℕ). IsFresh n (state c.in_ok-pass.pass)) c.count.ensures c.in_ok-pass.ensures)

pub loop-number-preserved : goal.loop-number-preserved
loop-number-preserved c =
    let n = c.loop-number.number in
    let es = c.args.entries.now in
    let ids = c.args.ids.now in
    let x = c.index-entries-number.result in
    let h : n < length es = omega arith in
    let i : n < length ids = omega (arith, c.requires.ids, h) in
    let e : drop n es ≡ x ∷ drop (n + 1) es = drop_more es n x h ∙ ap (λ (y : Entry). y ∷ drop (n + 1) es) (sym c.index-entries-number.is) in
    let f : ids_keys (drop n ids) ≡ (get_or ids n no_id).key ∷ ids_keys (drop (n + 1) ids) = ap ids_keys (drop_more ids n no_id i) in
    pass_step c.args.tiles.now es (ids_keys ids) x (drop (n + 1) es) (get_or ids n no_id).key (ids_keys (drop (n + 1) ids)) (state c.loop-number.pass) (state c.take.new.self)
    (subst (λ (l : List ℕ). HasPassed c.args.tiles.now (x ∷ drop (n + 1) es) es l (ids_keys ids) (state c.loop-number.pass)) f
    (subst (λ (l : List Entry). HasPassed c.args.tiles.now l es (ids_keys (drop n ids)) (ids_keys ids) (state c.loop-number.pass)) e c.loop-number.invariant))
    c.in_ok-take.ensures

pub returns : goal.returns
returns c =
    let n = c.loop-number.number in
    let es = c.args.entries.now in
    let h : length es ≤ n = omega arith in
    record {
      count = c.loop-number.invariant.sides;
      picked = pass_end c.args.tiles.now es (ids_keys c.args.ids.now) (ids_keys (drop n c.args.ids.now)) (state c.loop-number.pass)
          (subst (λ (l : List Entry). HasPassed c.args.tiles.now l es (ids_keys (drop n c.args.ids.now)) (ids_keys c.args.ids.now) (state c.loop-number.pass)) (drop_all n es h) c.loop-number.invariant);
    }
