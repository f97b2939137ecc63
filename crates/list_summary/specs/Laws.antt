-- What a summary says of a list.
use Rattle.std.specs.Prelude.{◌≡◌, ℕ, List}
use Rattle.display_list.specs.Levels.{totals_of}
use Rattle.display_list.specs.ListModel.{ListModel}
use Rattle.display_list.specs.Trees.{told}
use Rattle.list_summary.specs.Shown.{Shown, shown_trees}
use Rattle.list_summary.specs.Totals.{totals_of_shown}
use Rattle.list_summary.specs.Iframes.{summary_of, with_iframes}

-- the totals of an expanded list are its own with what each Iframe adds
abbrev pub SummariesTellTotals : Type 0
SummariesTellTotals =
    (below : ℕ → List Shown) (l : ListModel)
    → totals_of_shown (shown_trees below (totals_of l.chains) (told l.items)) ≡ with_iframes (λ q. totals_of_shown (below q)) (summary_of l).iframes (summary_of l).own
