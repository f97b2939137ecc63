use Rattle.painter.proofs.Picture.{picture_pixel, picture_premultiplied, one_home}
use Rattle.painter.proofs.laws.picture_laws.Goals as goal

pub returns : goal.returns
returns c = record { pixel = picture_pixel; premultiplied = picture_premultiplied; one_home = one_home }
