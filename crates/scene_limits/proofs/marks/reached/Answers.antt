use Rattle.std.proofs.Common.{◌≡◌, ◌+◌, ◌<◌, ◌||◌, Bool, true, false, IsTrue, List, length, set, refl, sym, ap, subst, ◌∙◌, arith}
use Rattle.std.proofs.lemmas.List.{get_or_default, length-set}
use Rattle.pipelines.specs.Table.{listed_list}
use Rattle.pipelines.specs.declared.pipeline.Pipeline.{Pipeline}
use Rattle.scene_limits.specs.Drawn.{is_marked, iframes_of, have_iframe_of, names, AreDrawn}
use Rattle.scene_limits.proofs.Marking.{AreNamedMarked, Grows, marks_grow, marks_stay, drawn_grow, drawn_start, marked_same}
use Rattle.scene_limits.proofs.marks.reached.Goals as goal
use Rattle.scene_limits.proofs.marks.reached.Goals.{then-marks-from, else-marks-from}

pub loop-p-init : goal.loop-p-init
loop-p-init c =
    let marks = c.no_marks-marks.result in
    let long : length marks ≡ 64 = omega arith in
    (marked_same marks 0, λ p q lt. absurd (omega arith), length-set marks 0 true ∙ long, drawn_start c.args.pipelines.now 64 (set marks 0 true) (ap (λ (ms : List Bool). set ms 0 true) c.no_marks-marks.ensures) refl)

pub loop-p-preserved : goal.loop-p-preserved
loop-p-preserved c =
    let ps = c.args.pipelines.now in
    let p = c.loop-p.p in
    let marks = c.loop-p.marks in
    let fit = c.get-pipeline.ensures.fit in
    let low : p < 64 = omega arith in
    let at : c.from.result ≡ p = omega (arith, c.from.ensures) in
    let inside : c.from.result < length marks = omega (arith, at, c.loop-p.invariant.2) in
    elim c.if-marks-from.branch [
      | then-marks-from w ↦
          (let on : is_marked marks p ≡ true = ap (is_marked marks) (sym at) ∙ get_or_default marks c.from.result true false inside ∙ w.if-marks-from.true in
          let grown = w.mark_named.new.marks in
          let grows : Grows marks grown ps p = λ q. w.mark_named.ensures q ∙ ap (λ (l : Pipeline). is_marked marks q || have_iframe_of q (iframes_of (listed_list l.listed))) c.get-pipeline.ensures.value in
          subst (λ (ms : List Bool). IsTrue (is_marked ms 0) × AreNamedMarked ms ps (p + 1) × (length ms ≡ 64) × AreDrawn ms ps) (sym w.marks-is) (
            grows 0 ∙ ap (λ (b : Bool). b || names ps p 0) c.loop-p.invariant.0,
            marks_grow ps p (p + 1) marks grown refl fit c.loop-p.invariant.1 grows,
            omega arith,
            drawn_grow ps p marks grown low on c.loop-p.invariant.3 grows,
          ))
      | else-marks-from w ↦
          (let off : is_marked marks p ≡ false = ap (is_marked marks) (sym at) ∙ get_or_default marks c.from.result true false inside ∙ w.if-marks-from.false in
          subst (λ (ms : List Bool). IsTrue (is_marked ms 0) × AreNamedMarked ms ps (p + 1) × (length ms ≡ 64) × AreDrawn ms ps) (sym w.marks-is)
          (c.loop-p.invariant.0, marks_stay ps p (p + 1) marks refl off c.loop-p.invariant.1, c.loop-p.invariant.2, c.loop-p.invariant.3))
    ]
