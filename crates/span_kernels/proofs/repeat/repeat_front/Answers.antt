use Rattle.std.proofs.Common.{◌≡◌, ◌+◌, ◌-◌, ◌%◌, ℕ, get_or, inl, inr, sym, ap, ◌∙◌, arith}
use Rattle.std.proofs.lemmas.Bool.{cases_lt}
use Rattle.std.proofs.Math.Nat.{mod_self, mod-eq_of_lt, add-mod-mod}
use Rattle.span_kernels.proofs.repeat.repeat_front.Goals as goal

pub loop-done-init : goal.loop-done-init
loop-done-init c = record {
  some = omega arith;
  whole = λ _. mod_self c.args.count;
  each = λ k lt _. ap (λ (i : ℕ). get_or c.args.d.now i 0) (sym (mod-eq_of_lt lt));
}

pub loop-done-preserved : goal.loop-done-preserved
loop-done-preserved c =
    let count = c.args.count in
    let done = c.loop-done.done in
    let more = c.append_front-done.ensures.count in
    let some = c.loop-done.invariant.some in
    let test = c.loop-done-test.true in
    let long = c.loop-done.auto.d in
    let turns : done % count ≡ 0 = c.loop-done.invariant.whole (omega arith) in
    let again : (n : ℕ) → (n + done) % count ≡ n % count = λ n. sym (add-mod-mod n done count) ∙ ap (λ (t : ℕ). (n + t) % count) turns ∙ ap (λ (t : ℕ). t % count) (let none : n + 0 ≡ n = omega arith in none) in
    record {
      some = omega arith;
      whole = λ lt.
          let all : c.append_front-done.result ≡ done = omega arith in
          rw all (again done ∙ turns);
      each = λ k lt within. elim (cases_lt k done) [
        | inl l ↦ c.append_front-done.ensures.same k l ∙ c.loop-done.invariant.each k l within
        | inr m ↦
            let j : ℕ = k - done in
            let here : j + done ≡ k = omega arith in
            let turned : j % count ≡ k % count = sym (again j) ∙ ap (λ (n : ℕ). n % count) here in
            c.append_front-done.ensures.again k m lt ∙ c.loop-done.invariant.each j (omega arith) (omega arith) ∙ ap (λ (i : ℕ). get_or c.args.d.now i 0) turned
      ];
    }
