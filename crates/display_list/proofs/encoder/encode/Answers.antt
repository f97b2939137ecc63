use Rattle.std.proofs.Common.{◌≡◌, rules, append_assoc, sym, subst}
use Rattle.display_list.specs.Grammar.{Spells}
use Rattle.display_list.specs.Spelling.{spelling}
use Rattle.display_list.proofs.Spellings.{few_clips, spelled_so}
use Rattle.display_list.proofs.ListFacts.{few_glyphs}
use Rattle.display_list.proofs.encoder.encode.Goals as goal

pub put_chains-requires : goal.put_chains-requires
put_chains-requires c = rw c.chains.ensures.value (few_clips c.args.list.now c.chains.ensures.spelled)

pub put_items-requires : goal.put_items-requires
put_items-requires c = rw c.items.ensures.value (few_glyphs c.args.list.now c.items.ensures.list)

pub returns-clause-spelled : goal.returns-clause-spelled
returns-clause-spelled c =
    let e : c.push.new.self.items ≡ spelling c.args.list.now = search (rules, append_assoc) in
    subst (Spells c.args.list.now) (sym e) (spelled_so c.args.list.now c.chains.ensures.spelled)
