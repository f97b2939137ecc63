use Rattle.tile_raster.proofs.note.note_at.Goals as goal

pub returns-then-i-drawing : goal.returns-then-i-drawing
returns-then-i-drawing c = c.requires.drawing.notes c.args.i c.index-drawing-i.result c.if-i-drawing.true c.requires.inside
