-- Beginnings of magics.
use Rattle.ffv1_hold.proofs.Common.{◌≡◌, ℕ, ◌<◌, List, [], ◌∷◌, ◌++◌, length, take, Bool, true, false, refl, sym, subst, inl, inr, arith, append-nil, true≢false, ◌⊎◌, Recordings, Profile, Any, Version, First, Second, magic, MayRead, BeginsMagic, IsPartOfMagic, HasFileVersion}

-- files of recordings of the profile are always read
pub profile_taken : (c : Recordings) → MayRead c true
profile_taken Profile = refl
profile_taken Any = tt

-- nothing begins each magic
pub begun_none : (c : Recordings) → BeginsMagic c []
begun_none c = record { of_profile = true; version = Second; is_magic = (profile_taken c, tt); begins = refl }

-- the bytes begin one of these
abbrev pub IsOneOf : Recordings → List ℕ → Type 0
IsOneOf c s = (s ≡ take (length s) (magic true First)) ⊎ ((s ≡ take (length s) (magic true Second)) ⊎ ((c ≡ Any) × (s ≡ take (length s) (magic false Second))))

pub one_begun : (c : Recordings) (s : List ℕ) → BeginsMagic c s → IsOneOf c s
one_begun c s b = go c b.of_profile b.version b.is_magic.0 b.is_magic.1 b.begins
  where
    go : (c : Recordings) (p : Bool) (v : Version) → MayRead c p → HasFileVersion v p → s ≡ take (length s) (magic p v) → IsOneOf c s
    go c true First taken has is = inl is
    go c true Second taken has is = inr (inl is)
    go c false First taken has is = absurd (true≢false (sym has))
    go Profile false Second taken has is = absurd (true≢false (sym taken))
    go Any false Second taken has is = inr (inr (refl, is))

-- a beginning of a magic, before its end
pub part_of_magic : (c : Recordings) (seen s : List ℕ) → length seen < 8 → BeginsMagic c seen → length s < 1 → IsPartOfMagic c (seen ++ s)
part_of_magic c seen [] few begun short = subst (IsPartOfMagic c) (sym (append-nil seen)) (few, begun)
part_of_magic c seen (x ∷ s) few begun short = absurd (omega arith)
