-- How many bytes the links of a frame have that pass.
use Rattle.std.proofs.Common.{◌≡◌, ℕ, ◌+◌, ◌-◌, ◌*◌, ◌^◌, ◌≤◌, ◌<◌, Bool, true, false, cond, List, [], ◌∷◌, length, drop, arith, sym, subst}
use Rattle.std.specs.Prelude.{slice_range}
use Rattle.std.specs.List.{AllByRecursion}
use Rattle.std.proofs.lemmas.List.{length-take, length-drop}
use Rattle.std.proofs.lemmas.List.Sums.{sum_by-cons}
use Rattle.ffv1_slice.specs.Chain.{LinkValue, IsLinkOf, link_of, AreLinksOf}
use Rattle.ffv1_scan.specs.Verdicts.{is_passing}
use Rattle.matroska_parts.specs.Payloads.{frame_limit, passing_size}

-- so are their bytes
pub first_sized : {passing : Bool} {all links : List LinkValue} {link : LinkValue} → passing ≡ is_passing link → all ≡ link ∷ links
    → passing_size all ≡ cond passing (length link.bytes) 0 + passing_size links
first_sized {links = links} {link = link} is split = rw (split, is) (sum_by-cons (λ l. cond (is_passing l) (length l.bytes) 0) link links)

-- links of at most so many bytes each
size_most : (links : List LinkValue) → AllByRecursion (λ link. length link.bytes ≤ frame_limit) links → passing_size links ≤ frame_limit * length links
size_most [] each = omega arith
size_most (link ∷ links) each =
    let more = size_most links each.1 in
    let all = sum_by-cons (λ l. cond (is_passing l) (length l.bytes) 0) link links in
    go (is_passing link) all more
  where
    go : (b : Bool) → passing_size (link ∷ links) ≡ cond b (length link.bytes) 0 + passing_size links → passing_size links ≤ frame_limit * length links
        → passing_size (link ∷ links) ≤ frame_limit * length (link ∷ links)
    go true all more = omega (arith, all, more, each.0)
    go false all more = omega (arith, all, more)

short : (payload : List ℕ) (p q : ℕ) → length payload ≤ frame_limit → length (slice_range payload p q) ≤ frame_limit
short payload p q most = omega (arith, most, length-take (q - p) (drop p payload), length-drop p payload)

short_by : (payload : List ℕ) (link : LinkValue) → length payload ≤ frame_limit → (q : ℕ) × IsLinkOf payload link.start q × (link ≡ link_of payload link.start q)
    → length link.bytes ≤ frame_limit
short_by payload link most is =
    subst (λ (l : LinkValue). length l.bytes ≤ frame_limit) (sym is.2) (short payload link.start is.0 most)

all_short : (payload : List ℕ) (links : List LinkValue) → length payload ≤ frame_limit
    → AllByRecursion (λ link. (q : ℕ) × IsLinkOf payload link.start q × (link ≡ link_of payload link.start q)) links
    → AllByRecursion (λ link. length link.bytes ≤ frame_limit) links
all_short payload [] most only = tt
all_short payload (link ∷ links) most only = (short_by payload link most only.0, all_short payload links most only.1)

-- so the sizes of all those of a frame don't wrap
pub size_fits : (payload : List ℕ) (links : List LinkValue) → length payload ≤ frame_limit → AreLinksOf payload links → 8 * length links ≤ length payload
    → passing_size links < 2 ^ 63
size_fits payload links most are few = omega (arith, most, few, size_most links (all_short payload links most are.only))
