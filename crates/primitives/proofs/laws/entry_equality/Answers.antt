use Rattle.std.proofs.Common.{refl}
use Rattle.wr_geom.specs.Bounds.{same_rect}
use Rattle.primitives.specs.declared.entry.Entry.TheVariants as entry
use Rattle.primitives.proofs.Sames.{same_primitive, same_push}
use Rattle.primitives.proofs.laws.entry_equality.Goals as goal

pub returns : goal.returns
unfolding same_rect
returns c (entry.Primitive p) (entry.Primitive q) h = same_primitive _ _ c.kind_equality.ensures (λ xs ys e. (c.sequence_laws.ensures.equality c.clip_order_laws.ensures.equality xs ys).0 e) p q h
returns c (entry.Primitive p) (entry.Push o m cs) h = absurd cc
returns c (entry.Primitive p) entry.Pop h = absurd cc
returns c (entry.Push o m cs) (entry.Primitive q) h = absurd cc
returns c (entry.Push o m cs) (entry.Push n k ds) h = same_push _ _ c.mode_equality.ensures (λ xs ys e. (c.sequence_laws.ensures.equality c.clip_order_laws.ensures.equality xs ys).0 e) o n m k cs ds h
returns c (entry.Push o m cs) entry.Pop h = absurd cc
returns c entry.Pop (entry.Primitive q) h = absurd cc
returns c entry.Pop (entry.Push n k ds) h = absurd cc
returns c entry.Pop entry.Pop h = refl
