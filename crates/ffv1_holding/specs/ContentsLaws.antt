-- The union of holdings of one record and size commutes, groups, and repeats without effect.
use Rattle.std.proofs.Common.{◌≡◌}
use Rattle.ffv1_holding.specs.SliceOrder.{entries_total, entries_antisymmetric, origins_total, origins_antisymmetric}
use Rattle.ffv1_holding.specs.Sets as set
use Rattle.ffv1_holding.specs.Contents.{Contents, IsSameReel, joined}

pub joined_comm : (a b : Contents) → IsSameReel a b → joined a b ≡ joined b a
joined_comm a b same = λ i. record {
  reel = same i;
  slices = set.union_comm entries_total entries_antisymmetric a.slices b.slices i;
  origins = set.union_comm origins_total origins_antisymmetric a.origins b.origins i;
}

pub joined_assoc : (a b c : Contents) → IsSameReel a b → IsSameReel b c → joined (joined a b) c ≡ joined a (joined b c)
joined_assoc a b c _ _ = λ i. record {
  reel = a.reel;
  slices = set.union_assoc entries_total entries_antisymmetric a.slices b.slices c.slices i;
  origins = set.union_assoc origins_total origins_antisymmetric a.origins b.origins c.origins i;
}

pub joined_again : (a b : Contents) → joined (joined a b) b ≡ joined a b
joined_again a b = λ i. record {
  reel = a.reel;
  slices = set.union_again entries_total entries_antisymmetric a.slices b.slices i;
  origins = set.union_again origins_total origins_antisymmetric a.origins b.origins i;
}

pub joined_reel : (a b c : Contents) → IsSameReel a b → IsSameReel a c → IsSameReel (joined a b) c
joined_reel a b c _ same = same
