use Rattle.std.proofs.Common.{◌≡◌, ◌+◌, ◌*◌, ◌++◌, length, drop}
use Rattle.std.specs.List.{flat_map}
use Rattle.display_list.specs.Tokens.{item_tokens, tokens_of}
use Rattle.display_list.specs.Spelling.{token_bytes}
use Rattle.display_list.proofs.item_encoder.+items.Given as goal

-- what is written and what is left are all
abbrev pub invariant-put_items-loop-item : goal.invariant-put_items-loop-item
invariant-put_items-loop-item l =
    l.out.items ++ flat_map token_bytes (tokens_of (drop l.item-index l.items)) ≡ l.fn.out.items ++ flat_map token_bytes (tokens_of l.items)

-- the tokens that are to be written; a list of items is one step above its items
abbrev pub decreases-put_item : goal.decreases-put_item
decreases-put_item l = 2 * length (item_tokens l.item.now)

abbrev pub decreases-put_items : goal.decreases-put_items
decreases-put_items l = 2 * length (tokens_of l.items.now) + 1
