use Rattle.wr_geom.proofs.Points.{intersection_points, intersection_apart, shifted_points}
use Rattle.wr_geom.proofs.Rects.{same_points, intersection_commutes, intersection_associates, bounding_covers_first, bounding_covers_second, bounding_least, bounding_of_empty, shifted_twice, shifted_area}
use Rattle.wr_geom.proofs.laws.rect_laws.Goals as goal

pub returns : goal.returns
returns c = record {
  same_points = same_points;
  shared_points = intersection_points;
  apart = intersection_apart;
  intersection_commutes = intersection_commutes;
  intersection_associates = intersection_associates;
  bounding_first = bounding_covers_first;
  bounding_second = bounding_covers_second;
  bounding_least = bounding_least;
  bounding_empty = bounding_of_empty;
  moved_points = shifted_points;
  moved_twice = shifted_twice;
  moved_area = shifted_area;
}
