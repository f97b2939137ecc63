use Rattle.std.proofs.Common.{subst, sym}
use Rattle.tile_records.specs.Interning.{Interning, ids_keys}
use Rattle.tile_records.specs.Making.{IsGrown}
use Rattle.tile_records.proofs.Interns.{interned_one, grown_noted, grown_forgotten}
use Rattle.tile_records.proofs.making.intern_next.Goals as goal

pub returns-clause-ok : goal.returns-clause-ok
returns-clause-ok c =
    let h = interned_one c.args.interner.now c.find_or_add.new.self c.note_new.new.interner c.in_ok-found.found c.args.added.now.items c.note_new.new.added.items c.in_ok-id.id c.args.entry.now c.in_ok-found.ensures.ok c.in_ok-id.ensures.ok in
    record { id = c.in_ok-id.id; noted = c.in_ok-push.ensures.items; stands = h.stands; extends = h.extends }

pub returns-clause-grown : goal.returns-clause-grown
returns-clause-grown c base g =
    grown_noted base c.args.interner.now c.find_or_add.new.self c.note_new.new.interner c.in_ok-found.found c.args.added.now.items c.note_new.new.added.items c.in_ok-id.id c.args.entry.now c.in_ok-found.ensures.ok c.in_ok-id.ensures.ok g

pub returns-in_err-found-clause-grown : goal.returns-in_err-found-clause-grown
returns-in_err-found-clause-grown c base g = subst (λ (m : Interning). IsGrown base m (ids_keys c.args.added.now.items)) (sym c.in_err-found.ensures.err) g

pub returns-in_err-id-clause-grown : goal.returns-in_err-id-clause-grown
returns-in_err-id-clause-grown c base g =
    grown_forgotten base c.args.interner.now c.find_or_add.new.self c.note_new.new.interner c.in_ok-found.found c.args.added.now.items c.note_new.new.added.items c.args.entry.now c.in_ok-found.ensures.ok c.in_err-id.ensures.err g

pub returns-in_err-push-clause-grown : goal.returns-in_err-push-clause-grown
returns-in_err-push-clause-grown c base g =
    grown_noted base c.args.interner.now c.find_or_add.new.self c.note_new.new.interner c.in_ok-found.found c.args.added.now.items c.note_new.new.added.items c.in_ok-id.id c.args.entry.now c.in_ok-found.ensures.ok c.in_ok-id.ensures.ok g
