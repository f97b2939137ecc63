use Rattle.std.proofs.Common.{◌≡◌, ◌+◌, ◌*◌, ◌≤◌, length, ap, ◌∙◌, append_assoc, arith}
use Rattle.display_list.specs.declared.token.Push.{Push}
use Rattle.display_list.specs.Tokens.{item_tokens, tokens_of}
use Rattle.display_list.proofs.Writing.{context_bytes, more_written, all_written, few_text, few_children, few_item, context_length, item_length}
use Rattle.display_list.proofs.item_encoder.+items.Goals as goal

pub put_item-returns-in_ok-push-in-Context : goal.put_item-returns-in_ok-push-in-Context
put_item-returns-in_ok-push-in-Context t c =
    let p : Push = record { node = c.in-Context.node; chain = c.in-Context.chain; opacity = c.in-Context.opacity; prop = c.in-Context.prop; mode = c.in-Context.mode; isolate = c.in-Context.isolate } in
    rw (c.in-Context.is, c.in_ok-push-in-Context.ensures.items, c.in_ok-put_items-in-Context.ensures, c.deref.ensures.value, c.in_ok-put_push-in-Context.ensures, context_bytes p c.in-Context.children) (simp append_assoc)

pub put_items-loop-item-preserved : goal.put_items-loop-item-preserved
put_items-loop-item-preserved t c =
    more_written c.args.items.now c.loop-item.item-index c.item-item.result c.loop-item.out.items c.put_item.new.out.items _ c.loop-item-test.true c.item-item.is c.in_ok-put_item.ensures c.loop-item.invariant

pub put_items-returns : goal.put_items-returns
put_items-returns t c = all_written c.args.items.now c.loop-item.item-index c.loop-item.out.items _ c.loop-item-test.false c.loop-item.invariant

pub put_item-put_text-requires : goal.put_item-put_text-requires
put_item-put_text-requires t c = few_text c.in-Text.spot c.in-Text.font c.in-Text.colour c.in-Text.glyphs (rw c.in-Text.is at c.requires)

pub put_item-put_items-requires : goal.put_item-put_items-requires
put_item-put_items-requires t c =
    let x = c.in-Context in
    let p : Push = record { node = x.node; chain = x.chain; opacity = x.opacity; prop = x.prop; mode = x.mode; isolate = x.isolate } in
    let d : 2 * length (item_tokens c.args.item.now) ≡ t = c.decreases in
    let k : length (item_tokens c.args.item.now) ≡ length (tokens_of x.children.items) + 2 = ap (λ i. length (item_tokens i)) x.is ∙ context_length p x.children in
    rw c.deref.ensures.value (omega arith, few_children p x.children (rw x.is at c.requires))

pub put_items-put_item-requires : goal.put_items-put_item-requires
put_items-put_item-requires t c =
    let d : 2 * length (tokens_of c.args.items.now) + 1 ≡ t = c.decreases in
    let k : length (item_tokens c.item-item.result) ≤ length (tokens_of c.args.items.now) = item_length c.args.items.now c.loop-item.item-index c.item-item.result c.loop-item-test.true c.item-item.is in
    (omega arith, few_item c.args.items.now c.loop-item.item-index c.item-item.result c.loop-item-test.true c.item-item.is c.requires)
