use Rattle.std.proofs.Common.{◌≡◌, ◌≤◌, ◌-◌, ◌*◌, ◌^◌, false}
use Rattle.file_generator.specs.Files.{payloads}
use Rattle.frame_replay.specs.Answer.{start_state, state_after_all, state_of}
use Rattle.frame_replay.specs.Load.{answers_from, counts_of}
use Rattle.frame_replay.proofs.Counting.{counts_with, answers_left}
use Rattle.frame_replay.proofs.Loads.{state_left}
use Rattle.frame_replay.proofs.load.loaded.Given as goal

-- what is counted, with the payloads that are left, leads to all
abbrev pub invariant-loop : goal.invariant-loop
invariant-loop l = record {
  all : counts_with l.loading.counts (answers_left l.generator (l.count - l.counter) (state_of l.loading.renderer)) ≡ counts_of (answers_from (payloads l.number l.count) start_state);
  state : state_left l.generator (l.count - l.counter) (state_of l.loading.renderer) ≡ state_after_all (payloads l.number l.count) false start_state;
  next : l.generator.next ≡ l.counter;
  last : l.counter ≤ l.count;
  frames : l.loading.counts.frames ≤ l.counter;
  refused : l.loading.counts.refused ≤ l.counter;
  pixels : l.loading.counts.pixels ≤ l.counter * 2 ^ 34;
  drawn : l.loading.counts.drawn ≤ l.counter * 2 ^ 36;
}
