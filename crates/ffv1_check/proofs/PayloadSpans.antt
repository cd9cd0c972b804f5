-- What passes in the payload of a block.
use Rattle.std.proofs.Common.{◌≡◌, ℕ, zero, suc, ◌+◌, ◌-◌, ◌≤◌, Bool, true, false, cond, eqb, List, [], ◌∷◌, ◌++◌, length, take, refl, sym, ap, ◌∙◌, subst, arith, inl, inr}
use Rattle.std.specs.Prelude.{◌⊎◌, nat_lt, slice_range, codes}
use Rattle.std.specs.Bool.{Decides}
use Rattle.std.specs.Str.{bytes_eq}
use Rattle.std.proofs.lemmas.Bool.{eqb-true, cases_lt, ltb-true, and_parts}
use Rattle.std.proofs.lemmas.Slice.Eq.{bytes_eq-Decides}
use Rattle.std.proofs.lemmas.List.{append_assoc, take_all}
use Rattle.std.proofs.lemmas.List.Sums.{sum_by-cons}
use Rattle.ffv1_slice.specs.Bits.{bits_of}
use Rattle.ffv1_slice.specs.Parity.{remainder_of}
use Rattle.ffv1_slice.specs.Chain.{size_before, FooterGives, LinkValue, link_of}
use Rattle.ffv1_slice.specs.Walk.{walked, links_of}
use Rattle.ffv1_slice.proofs.Links.{walked-more, walked-none}
use Rattle.ffv1_slice.proofs.Places.{taken_on}
use Rattle.ffv1_scan.specs.Verdicts.{is_passing}
use Rattle.matroska.specs.Blocks.{BlockValue, IsBlock}
use Rattle.matroska.specs.Sound.{IsRightFlac}
use Rattle.matroska.specs.Tracks.{IsFlac}
use Rattle.matroska.specs.declared.track.Track.{Track}
use Rattle.matroska_parts.specs.BlockParts.{IsStanding}
use Rattle.matroska_parts.specs.Payloads.{IsPayloadOf, passing_size, HasPassing}
use Rattle.matroska_parts.specs.declared.parts.Payload.{Payload}
use Rattle.matroska_parts.specs.declared.parts.Payload.TheVariants as payload
use Rattle.matroska_parts.specs.declared.parts.Standing.{Standing}
use Rattle.matroska_parts.specs.declared.parts.Standing.TheVariants as standing
use Rattle.ffv1_check.specs.CheckedBytes.{block_bytes}
use Rattle.ffv1_check.specs.Spans.{HasChecked}
use Rattle.ffv1_check.proofs.SpanSteps.{checked_none, checked_all, checked_join, Counts, counts_none}

-- ---- frames

link_checked : (link : LinkValue) → HasChecked link.bytes (cond (is_passing link) (length link.bytes) 0)
link_checked link = go (is_passing link) refl
  where
    go : (b : Bool) → is_passing link ≡ b → HasChecked link.bytes (cond b (length link.bytes) 0)
    go true is =
        let both = and_parts (nat_lt 8 (length link.bytes)) (eqb (remainder_of (bits_of link.bytes)) 0) is in
        checked_all link.bytes (inr (inl (ltb-true 8 (length link.bytes) both.0, eqb-true (remainder_of (bits_of link.bytes)) 0 both.1)))
    go false is = checked_none link.bytes

walk_checked : (c : List ℕ) (n q : ℕ) → q ≤ length c → HasChecked (take q c) (passing_size (walked n c q))
unfolding walked
walk_checked c zero q within = checked_none (take q c)
walk_checked c (suc n) q within = elim (cases_lt q (size_before c q + 8)) [
  | inl short ↦ subst (λ z. HasChecked (take q c) (passing_size z)) (sym (walked-none c (suc n) q (λ p cut. omega arith))) (checked_none (take q c))
  | inr fits ↦
      let p : ℕ = q - (size_before c q + 8) in
      let cut : FooterGives c (q - (size_before c q + 8)) q = omega arith in
      let less : q - (size_before c q + 8) ≤ q = omega arith in
      let before = walk_checked c n (q - (size_before c q + 8)) (omega (arith, within, less)) in
      let joined = checked_join _ _ _ _ before (link_checked (link_of c (q - (size_before c q + 8)) q)) in
      let bytes : take (q - (size_before c q + 8)) c ++ slice_range c (q - (size_before c q + 8)) q ≡ take q c = taken_on c (q - (size_before c q + 8)) q less in
      let size : passing_size (walked n c (q - (size_before c q + 8))) + cond (is_passing (link_of c (q - (size_before c q + 8)) q)) (length (slice_range c (q - (size_before c q + 8)) q)) 0
      ≡ passing_size (walked (suc n) c q) =
      omega (
        arith,
        ap passing_size (walked-more c n (q - (size_before c q + 8)) q cut),
        sum_by-cons (λ (link : LinkValue). cond (is_passing link) (length link.bytes) 0) (link_of c (q - (size_before c q + 8)) q) (walked n c (q - (size_before c q + 8))),
      ) in
      subst (λ z. HasChecked z (passing_size (walked (suc n) c q))) bytes (subst (HasChecked (take (q - (size_before c q + 8)) c ++ slice_range c (q - (size_before c q + 8)) q)) size joined)
]

frame_checked : (c : List ℕ) → HasChecked c (passing_size (links_of c))
frame_checked c =
    subst (λ z. HasChecked z (passing_size (links_of c))) (take_all (length c) c (omega arith)) (walk_checked c (length c) (length c) (omega arith))

-- ---- FLAC

is_flac_or_not : (track : Track) → IsFlac track ⊎ (IsFlac track → ⊥)
is_flac_or_not track = go (bytes_eq track.codec.now (codes "A_FLAC")) (bytes_eq-Decides track.codec.now (codes "A_FLAC")) track.is_encoded refl
  where
    go : (b : Bool) → Decides b (track.codec.now ≡ codes "A_FLAC") → (e : Bool) → track.is_encoded ≡ e → IsFlac track ⊎ (IsFlac track → ⊥)
    go true decides true is = inr (λ flac. flac.1 is)
    go true decides false is = inl (decides.0 refl, λ t. let no : false ≡ true = sym is ∙ t in cc)
    go false decides e is = inr (λ flac. let no : false ≡ true = decides.1 flac.0 in cc)

flac_right : (track : Track) (block : BlockValue) → IsPayloadOf track block (payload.Flac true) → IsRightFlac block.lacing block.payload
flac_right track block is = elim (is_flac_or_not track) [
  | inl flac ↦ (is.flac flac).1.0 refl
  | inr none ↦ let other = is.other (λ has. is.frame has) none in absurd (cc)
]

-- ---- blocks

payload_checked : (track : Track) (block : BlockValue) (found : Payload) (size : ℕ) → IsPayloadOf track block found → HasPassing found block.payload size
    → HasChecked block.payload size
payload_checked track block payload.Laced size is has = subst (HasChecked block.payload) (sym has) (checked_none block.payload)
payload_checked track block payload.Long size is has = subst (HasChecked block.payload) (sym has) (checked_none block.payload)
payload_checked track block payload.Other size is has = subst (HasChecked block.payload) (sym has) (checked_none block.payload)
payload_checked track block (payload.Frame verdict) size is has = subst (HasChecked block.payload) (sym has) (frame_checked block.payload)
payload_checked track block (payload.Flac true) size is has =
    subst (HasChecked block.payload) (sym has) (checked_all block.payload (inr (inr (inl (block.lacing, flac_right track block is)))))
payload_checked track block (payload.Flac false) size is has = subst (HasChecked block.payload) (sym has) (checked_none block.payload)

content_checked : (content : List ℕ) (block : BlockValue) (size : ℕ) → IsBlock content block → HasChecked block.payload size → HasChecked content size
content_checked content block size is payload =
    let front : List ℕ = is.number ++ is.high ∷ is.low ∷ is.flags ∷ [] in
    let joined : content ≡ (is.number ++ is.high ∷ is.low ∷ is.flags ∷ []) ++ block.payload =
    is.joined ∙ sym (append_assoc is.number (is.high ∷ is.low ∷ is.flags ∷ []) block.payload) in
    let same : 0 + size ≡ size = omega arith in
    subst (λ z. HasChecked z size) (sym joined) (subst (HasChecked _) same (checked_join front block.payload 0 size (checked_none front) payload))

pub standing_counts : (tracks : List Track) (vouched : Bool) (content : List ℕ) (s : Standing) → IsStanding tracks vouched content s
    → Counts vouched content (block_bytes s)
standing_counts tracks vouched content standing.Short is = counts_none vouched content
standing_counts tracks vouched content (standing.Unnamed track) is = counts_none vouched content
standing_counts tracks true content (standing.Named found) is = ap (λ b. cond b 0 found.passing) is.2.vouched_is
standing_counts tracks false content (standing.Named found) is =
    subst (HasChecked content) (sym (ap (λ b. cond b 0 found.passing) is.2.vouched_is))
    (content_checked content is.0 found.passing is.1 (payload_checked is.2.track is.0 found.payload found.passing is.2.payload is.2.passing))
