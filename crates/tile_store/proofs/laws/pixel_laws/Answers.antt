use Rattle.tile_store.proofs.Pixels.{touch_keeps, swap_keeps, put_keeps, remove_keeps, pop_keeps, window_row_changes_alone}
use Rattle.tile_store.proofs.laws.pixel_laws.Goals as goal

pub returns-clause-touch : goal.returns-clause-touch
returns-clause-touch g c = touch_keeps

pub returns-clause-swap_note : goal.returns-clause-swap_note
returns-clause-swap_note g c = swap_keeps

pub returns-clause-put : goal.returns-clause-put
returns-clause-put g c = put_keeps

pub returns-clause-remove : goal.returns-clause-remove
returns-clause-remove g c = remove_keeps

pub returns-clause-pop_over : goal.returns-clause-pop_over
returns-clause-pop_over g c = pop_keeps

pub returns-clause-row_mut : goal.returns-clause-row_mut
returns-clause-row_mut g c = window_row_changes_alone
