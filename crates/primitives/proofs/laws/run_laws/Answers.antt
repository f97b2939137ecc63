use Rattle.primitives.proofs.Runs.{runs_in_parts, full_clips_do_nothing, balanced_leaves_groups, balanced_knows_top_alone, rows_are_balanced, run_keeps_pixels, hidden_leaves_stack, hidden_list_leaves_stack}
use Rattle.primitives.proofs.laws.run_laws.Goals as goal

pub returns : goal.returns
returns c = record {
  parts = runs_in_parts;
  full_clips = full_clips_do_nothing;
  groups = balanced_leaves_groups;
  top = balanced_knows_top_alone;
  rows = rows_are_balanced;
  pixels = run_keeps_pixels;
  hidden = hidden_leaves_stack;
  hidden_list = hidden_list_leaves_stack;
}
