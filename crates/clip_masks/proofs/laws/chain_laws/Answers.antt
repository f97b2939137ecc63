use Rattle.clip_masks.proofs.Chains.{chain_none, chain-append, chain_zero, chain_at_most, shifted_chain, cut_inside, beside_cut, within_cut}
use Rattle.clip_masks.proofs.laws.chain_laws.Goals as goal

pub returns : goal.returns
returns c = record {
  none = chain_none;
  both = chain-append;
  nothing = chain_zero;
  at_most = chain_at_most;
  moved_pixels = shifted_chain;
  inside = cut_inside;
  beside = beside_cut;
  within = within_cut;
}
