use Rattle.std.proofs.Common.{ℕ, length, subst, sym, ap, ◌≤◌}
use Rattle.primitives.specs.Tops.{first_clips}
use Rattle.std.specs.Prelude.{All}
use Rattle.primitives.specs.declared.entry.Top.{Top}
use Rattle.slice_rules.specs.Runs.{Run}
use Rattle.picture_slices.proofs.Sharing.{shared_are_there}
use Rattle.picture_slices.proofs.run.TopRun.slice.Goals as goal

pub moved_entries-requires-clause-skip : goal.moved_entries-requires-clause-skip
moved_entries-requires-clause-skip c =
    let members = ap (λ (r : Run Top). r.members) (sym c.self.view_is) in
    let there = subst (λ (n : ℕ). All (λ (t : Top). n ≤ length (first_clips t.entries)) c.args.self.members) (sym c.shared-shared.ensures) (shared_are_there c.args.self c.requires) in
    subst (All (λ (t : Top). c.shared-shared.result ≤ length (first_clips t.entries))) members there
