-- What items have together, as far as it matters: from the cap on numbers stand still.
use Rattle.std.specs.Prelude.{ℕ, ◌+◌, ◌*◌, min, max, List, [], ◌∷◌, length, ◌==◌, if◌then◌else◌}
use Rattle.std.specs.List.{fold}
use Rattle.list_summary.specs.declared.totals.Totals.{Totals}
use Rattle.list_summary.specs.Shown.{Shown}

-- ---- the meaning

abbrev pub total : (Shown → ℕ) → List Shown → ℕ
total f [] = 0
total f (x ∷ xs) = f x + total f xs

abbrev pub greatest : (Shown → ℕ) → List Shown → ℕ
greatest f [] = 0
greatest f (x ∷ xs) = max (f x) (greatest f xs)

-- one more than the greatest limit
unfoldable pub capped : ℕ → ℕ
capped n = min n 1048577

abbrev pub totals_of_shown : List Shown → Totals
totals_of_shown xs = record {
  items = capped (length xs);
  glyphs = capped (total (λ s. s.glyphs) xs);
  clips = capped (total (λ s. s.clips) xs);
  nesting = capped (greatest (λ s. s.nesting) xs);
  most_clips = capped (greatest (λ s. s.clips) xs);
}

-- ---- by totals alone

abbrev pub no_totals : Totals
no_totals = record { items = 0; glyphs = 0; clips = 0; nesting = 0; most_clips = 0 }

-- of one item
unfoldable pub single : ℕ → ℕ → ℕ → Totals
single nesting clips glyphs =
    record { items = 1; glyphs = capped glyphs; clips = capped clips; nesting = capped nesting; most_clips = capped clips }

-- of the items of both
unfoldable pub both : Totals → Totals → Totals
both a b = record {
  items = capped (a.items + b.items);
  glyphs = capped (a.glyphs + b.glyphs);
  clips = capped (a.clips + b.clips);
  nesting = max a.nesting b.nesting;
  most_clips = max a.most_clips b.most_clips;
}

-- a sum with more items, one by one
abbrev pub and_shown : Totals → List Shown → Totals
and_shown sum xs = fold (λ t s. both t (single s.nesting s.clips s.glyphs)) sum xs

-- what a greatest number becomes where n is added for each item: without an item it stays 0
unfoldable pub raised : ℕ → ℕ → ℕ → ℕ
raised n items greatest = if items == 0 then 0 else capped (greatest + n)

-- each in so many contexts, and under so many clips, more
unfoldable pub lowered : ℕ → ℕ → Totals → Totals
lowered contexts clips t = record {
  items = t.items;
  glyphs = t.glyphs;
  clips = capped (t.clips + clips * t.items);
  nesting = raised contexts t.items t.nesting;
  most_clips = raised clips t.items t.most_clips;
}
