use Rattle.painter.proofs.Pixels.{item_pixel, items_pixel, pipelines_pixel, pipelines_premultiplied}
use Rattle.painter.proofs.laws.pixel_laws.Goals as goal

pub returns : goal.returns
returns c = record { item = item_pixel; items = items_pixel; pipelines = pipelines_pixel; premultiplied = pipelines_premultiplied }
