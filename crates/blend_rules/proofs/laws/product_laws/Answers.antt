use Rattle.blend_rules.proofs.Products.{product-full_right, product-full_left, product-zero_right, product-zero_left, product-le_left, product-le_right}
use Rattle.blend_rules.proofs.laws.product_laws.Goals as goal

pub returns : goal.returns
returns c = record {
  by_full = product-full_right;
  of_full = product-full_left;
  by_none = product-zero_right;
  of_none = product-zero_left;
  at_most_first = product-le_left;
  at_most_second = product-le_right;
}
