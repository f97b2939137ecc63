use Rattle.std.proofs.Common.{◌≡◌, ℕ, false, List, [], ◌+◌, ◌-◌, ap, ◌∙◌, arith}
use Rattle.file_generator.specs.Files.{Generating, payloads}
use Rattle.frame_replay.specs.Answer.{ReplayState, accepted, next_state, start_state, state_after_all, state_of}
use Rattle.frame_replay.specs.Load.{answers_from, counts_of, with_answer}
use Rattle.frame_replay.specs.declared.load.Counts.{Counts}
use Rattle.frame_replay.proofs.Counting.{answers_left, counted_all, counted_more, counted_none, counts_with, file_answers, frames_grow, refused_grow}
use Rattle.frame_replay.proofs.Loads.{file_state, state_left, state_more, state_none}
use Rattle.frame_replay.proofs.load.loaded.Goals as goal

pub loop-init : goal.loop-init
loop-init c =
    let g = c.new-generator.result in
    let loading = c.in_ok-loading.loading in
    let counts = c.in_ok-loading.ensures.counts in
    let whole : c.args.count - 0 ≡ c.args.count = omega arith in
    record {
      all =
          ap (λ (n : ℕ). counts_with loading.counts (answers_left g n (state_of loading.renderer))) whole
          ∙ ap (λ (x : Counts). counts_with x (answers_left g c.args.count (state_of loading.renderer))) counts
          ∙ ap (λ (h : Generating). counts_with (counts_of []) (answers_left h c.args.count (state_of loading.renderer))) c.new-generator.ensures
          ∙ ap (λ (s : ReplayState). counts_with (counts_of []) (answers_left (record { next = 0; state = c.args.number }) c.args.count s)) c.in_ok-loading.ensures.state
          ∙ counted_all c.args.number c.args.count;
      state =
          ap (λ (n : ℕ). state_left g n (state_of loading.renderer)) whole
          ∙ ap (λ (h : Generating). state_left h c.args.count (state_of loading.renderer)) c.new-generator.ensures
          ∙ ap (λ (s : ReplayState). state_left (record { next = 0; state = c.args.number }) c.args.count s) c.in_ok-loading.ensures.state;
      next = ap (λ (h : Generating). h.next) c.new-generator.ensures;
      last = omega arith;
      frames = omega (arith, ap (λ (x : Counts). x.frames) counts);
      refused = omega (arith, ap (λ (x : Counts). x.refused) counts);
      pixels = omega (arith, ap (λ (x : Counts). x.pixels) counts);
      drawn = omega (arith, ap (λ (x : Counts). x.drawn) counts);
    }

pub loop-preserved : goal.loop-preserved
loop-preserved c =
    let before : ReplayState = state_of c.loop.loading.renderer in
    let after : ReplayState = state_of c.answer.new.self.renderer in
    let payload = c.put_next.new.payload.items in
    let state : after ≡ next_state payload before = c.in_ok-answer.ensures.state ∙ ap (λ (p : List ℕ). next_state p before) c.as_slice.ensures.value in
    let counts : c.answer.new.self.counts ≡ with_answer (accepted payload before) c.loop.loading.counts =
    c.in_ok-answer.ensures.counts ∙ ap (λ (p : List ℕ). with_answer (accepted p before) c.loop.loading.counts) c.as_slice.ensures.value in
    record {
      all =
          counted_more (counts_of (answers_from (payloads c.args.number c.args.count) start_state)) c.loop.loading.counts c.answer.new.self.counts c.loop.generator c.put_next.new.self
          payload before after (c.args.count - c.loop.counter) (c.args.count - (c.loop.counter + 1)) (omega arith)
          c.in_ok-put_next.ensures.payload c.in_ok-put_next.ensures.after state counts c.loop.invariant.all;
      state =
          state_more (state_after_all (payloads c.args.number c.args.count) false start_state) c.loop.generator c.put_next.new.self payload before after
          (c.args.count - c.loop.counter) (c.args.count - (c.loop.counter + 1)) (omega arith) c.in_ok-put_next.ensures.payload c.in_ok-put_next.ensures.after state c.loop.invariant.state;
      next = ap (λ (g : Generating). g.next) c.in_ok-put_next.ensures.after ∙ ap (λ (n : ℕ). n + 1) c.loop.invariant.next;
      last = omega arith;
      frames = omega (arith, ap (λ (x : Counts). x.frames) counts, frames_grow (accepted payload before) c.loop.loading.counts, c.loop.invariant.frames);
      refused = omega (arith, ap (λ (x : Counts). x.refused) counts, refused_grow (accepted payload before) c.loop.loading.counts, c.loop.invariant.refused);
      pixels = omega (arith, c.in_ok-answer.ensures.pixels, c.loop.invariant.pixels);
      drawn = omega (arith, c.in_ok-answer.ensures.drawn, c.loop.invariant.drawn);
    }

pub returns-clause-counts : goal.returns-clause-counts
returns-clause-counts c =
    counted_none (counts_of (answers_from (payloads c.args.number c.args.count) start_state)) c.loop.loading.counts c.loop.generator (state_of c.loop.loading.renderer)
    (c.args.count - c.loop.counter) (omega arith) c.loop.invariant.all
    ∙ file_answers c.args.number c.args.count c.requires

pub returns-clause-state : goal.returns-clause-state
returns-clause-state c =
    state_none (state_after_all (payloads c.args.number c.args.count) false start_state) c.loop.generator (state_of c.loop.loading.renderer) (c.args.count - c.loop.counter) (omega arith) c.loop.invariant.state
    ∙ file_state c.args.number c.args.count c.requires
