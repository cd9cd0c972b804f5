-- An entry, and a head, by the parts that are written.
use Rattle.ffv1_hold.proofs.Common.{◌≡◌, ℕ, ◌∷◌, List, ◌++◌, length, ap, ◌∙◌, append_assoc, refl, w32, to_be_bytes, Entry, Reel, Second, be2, be4, slice_text, origins_text, sized_record, head_text, magic, Bool}
use Rattle.ffv1_hold.proofs.DigestTexts.{whole}

slice_text-parts : (e : Entry) → ((1 ∷ be2 e.0) ++ be4 (length e.1)) ++ e.1 ≡ 1 ∷ slice_text e
unfolding slice_text
slice_text-parts e = refl

pub slice_spelled : (e : Entry) (head : List ℕ) → head ≡ (1 ∷ be2 e.0) ++ be4 (length e.1) → head ++ e.1 ≡ 1 ∷ slice_text e
slice_spelled e head is = ap (λ l. l ++ e.1) is ∙ slice_text-parts e

-- a count's bytes
pub be4_spelled : (n : ℕ) → to_be_bytes w32 n ≡ be4 n
unfolding be4
be4_spelled n = refl

pub origins_spelled : (ds : List (List ℕ)) (count : List ℕ) → count ≡ be4 (length ds) → count ++ whole ds ≡ origins_text ds
unfolding origins_text
origins_spelled ds count is = ap (λ c. c ++ whole ds) is

head_text-parts : (r : Reel) → (magic r.rules.is_profile Second ++ (be4 r.setup.width ++ be4 r.setup.height ++ be4 (length r.config))) ++ r.config
    ≡ head_text Second r
unfolding head_text sized_record
head_text-parts r = append_assoc (magic r.rules.is_profile Second) (be4 r.setup.width ++ be4 r.setup.height ++ be4 (length r.config)) r.config

pub head_spelled : (r : Reel) (head config : List ℕ) (p : Bool) (w h : ℕ) → head ≡ magic p Second ++ (be4 w ++ be4 h ++ be4 (length config))
    → p ≡ r.rules.is_profile → w ≡ r.setup.width → h ≡ r.setup.height → config ≡ r.config → head ++ config ≡ head_text Second r
head_spelled r head config p w h is named wide high same =
    ap (λ x. x ++ config) is
    ∙ (λ i. (magic (named i) Second ++ (be4 (wide i) ++ be4 (high i) ++ be4 (length (same i)))) ++ same i)
    ∙ head_text-parts r
