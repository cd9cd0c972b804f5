-- A setup whose getters return what was asked is the one asked for.
use Rattle.std.proofs.Common.{◌≡◌, ℕ, zero, suc, ◌+◌, ◌-◌, ◌*◌, ◌/◌, ◌<◌, Bool, true, false, List, [], ◌∷◌, length, map, drop, get_or, refl, sym, ap, ◌∙◌, subst, arith, add-one}
use Rattle.std.specs.Prelude.{pos, neg_ℤ, ℤ, ◌==◌, nat_lt, if◌then◌else◌, slice_index}
use Rattle.std.specs.List.{All}
use Rattle.std.proofs.lemmas.Bool.{lt-ltb}
use Rattle.std.proofs.lemmas.List.{length-map}
use Rattle.std.proofs.lemmas.List.FromFn.{fill_by_all, length-map-range_with_len}
use Rattle.std.proofs.lemmas.List.Elements.{All-head, All-tail}
use Rattle.ffv1_bits.specs.Limits.{greatest_side}
use Rattle.ffv1_range.specs.Setup.{RecordingValue, SetupValue, SetFields, IsSetFields, IsSetupOf, no_set}
use Rattle.ffv1_range.specs.SetupForms.{setup_of}
use Rattle.ffv1_range.specs.Tables.{half_of, halves_of, runs_ended, scale_after, scale_after_all, set_of, SetValue, table_entry}
use Rattle.ffv1_vectors.specs.Inner.Asked.{HasAskedFields, HasTables, HasSet, HasSets}
use Rattle.ffv1_vectors.specs.Asked.{asked_sets, asked_setup}
use Rattle.ffv1_vectors.specs.declared.record.RecordSpec.{RecordSpec}

drop_parts : {A : Type 0} (d : A) (t : ℕ) (xs : List A) (y : A) (ys : List A) → drop t xs ≡ y ∷ ys → (get_or xs t d ≡ y) × (drop (suc t) xs ≡ ys)
drop_parts d zero [] y ys h = absurd cc
drop_parts d zero (x ∷ xs) y ys h = (cc, cc)
drop_parts d (suc t) [] y ys h = absurd cc
drop_parts d (suc t) (x ∷ xs) y ys h = drop_parts d t xs y ys h

same_pos : (a b : ℕ) → pos a ≡ pos b → a ≡ b
same_pos a b h = cc

if_true : (b : Bool) (x y : ℤ) → b ≡ true → (if b then x else y) ≡ x
if_true true x y h = refl
if_true false x y h = absurd cc

-- a half whose entries are those asked for
same_half : (half : List ℕ) (scale : ℕ) (runs : List ℕ) → length half ≡ 128 → ((k : ℕ) → k < 128 → table_entry half k ≡ pos (scale * runs_ended 0 runs k))
    → half ≡ half_of scale runs
same_half half scale runs size h =
    fill_by_all (λ k. scale * runs_ended 0 runs k) half 128 0 size
    (λ k l. same_pos (slice_index half k) (scale * runs_ended 0 runs k)
    (sym (if_true (nat_lt k 128) (pos (slice_index half k)) (neg_ℤ (pos (slice_index half (if k == 128 then 127 else 256 - k)))) (lt-ltb k 128 l)) ∙ h k l))

-- From table i on, the halves are those asked for.
same_halves : (setup : SetupValue) (set i s t : ℕ) (halves tables asked : List (List ℕ)) → (get_or setup.sets set no_set).halves ≡ halves
    → drop i halves ≡ halves_of s tables → length tables ≡ length asked → HasTables setup set i t asked → halves_of s tables ≡ halves_of t asked
same_halves setup set i s t halves [] [] of e size h = refl
same_halves setup set i s t halves [] (a ∷ asked) of e size h = absurd cc
same_halves setup set i s t halves (r ∷ tables) [] of e size h = absurd cc
same_halves setup set i s t halves (r ∷ tables) (a ∷ asked) of e size h =
    let parts = drop_parts [] i halves (half_of s r) (halves_of (scale_after s r) tables) e in
    let here : get_or (get_or setup.sets set no_set).halves i [] ≡ half_of s r = ap (λ z. get_or z i []) of ∙ parts.0 in
    let first : half_of s r ≡ half_of t a =
    same_half (half_of s r) t a (length-map-range_with_len (λ k. s * runs_ended 0 r k) 0 128)
    (λ k l. subst (λ z. table_entry z k ≡ pos (t * runs_ended 0 a k)) here (h.0 k l)) in
    let more : halves_of (scale_after s r) tables ≡ halves_of (scale_after t a) asked =
    same_halves setup set (suc i) (scale_after s r) (scale_after t a) halves tables asked of parts.1 (omega (arith, size))
    (subst (λ n. HasTables setup set n (scale_after t a) asked) (add-one i) h.1) in
    ap (λ z. z ∷ halves_of (scale_after s r) tables) first ∙ ap (λ z. half_of t a ∷ z) more

set_with : List (List ℕ) → ℕ → SetValue
set_with halves contexts = record { halves = halves; contexts = contexts }

same_set : (setup : SetupValue) (set : ℕ) (tables asked : List (List ℕ)) → length tables ≡ 5 → get_or setup.sets set no_set ≡ set_of tables
    → HasSet setup set asked
    → set_of tables ≡ set_of asked
unfolding set_with
same_set setup set tables asked five e h =
    let halves : halves_of 1 tables ≡ halves_of 1 asked =
    same_halves setup set 0 1 1 (halves_of 1 tables) tables asked (ap (λ z. z.halves) e) refl (five ∙ sym h.five) h.entries in
    let contexts : (scale_after_all 1 tables + 1) / 2 ≡ (scale_after_all 1 asked + 1) / 2 = sym (ap (λ z. z.contexts) e) ∙ h.contexts in
    ap (λ z. set_with z ((scale_after_all 1 tables + 1) / 2)) halves ∙ ap (λ z. set_with (halves_of 1 asked) z) contexts

-- From set n on, the sets are those asked for.
same_sets : (setup : SetupValue) (n : ℕ) (sets : List SetFields) (asked : List (List (List ℕ))) → drop n setup.sets ≡ map (λ set. set_of set.tables) sets
    → All IsSetFields sets → length sets ≡ length asked → HasSets setup n asked → map (λ set. set_of set.tables) sets ≡ map set_of asked
same_sets setup n [] [] e each size h = refl
same_sets setup n [] (a ∷ asked) e each size h = absurd cc
same_sets setup n (s ∷ sets) [] e each size h = absurd cc
same_sets setup n (s ∷ sets) (a ∷ asked) e each size h =
    let parts = drop_parts no_set n setup.sets (set_of s.tables) (map (λ set. set_of set.tables) sets) e in
    let head : IsSetFields s = All-head IsSetFields s sets each in
    let first : set_of s.tables ≡ set_of a = same_set setup n s.tables a head.tables.five parts.0 h.0 in
    let more : map (λ set. set_of set.tables) sets ≡ map set_of asked =
    same_sets setup (suc n) sets asked parts.1 (All-tail IsSetFields s sets each) (omega (arith, size))
    (subst (λ k. HasSets setup k asked) (add-one n) h.1) in
    ap (λ z. z ∷ map (λ set. set_of set.tables) sets) first ∙ ap (λ z. set_of a ∷ z) more

setup_with : ℕ → Bool → ℕ → ℕ → ℕ → ℕ → List SetValue → ℕ → ℕ → ℕ → ℕ → SetupValue
setup_with micro has_chroma shift_h shift_v across down sets ec intra width height =
    setup_of micro (record { has_chroma = has_chroma; shift_h = shift_h; shift_v = shift_v }) (record { across = across; down = down })
    sets ec intra width height

same_setup : (m n : ℕ) (c d : Bool) (h i v w a b e f : ℕ) (s t : List SetValue) (p q x y g k l o : ℕ) → m ≡ n → c ≡ d → h ≡ i → v ≡ w → a ≡ b → e ≡ f
    → s ≡ t → p ≡ q → x ≡ y → g ≡ k → l ≡ o → setup_with m c h v a e s p x g l ≡ setup_with n d i w b f t q y k o
same_setup m n c d h i v w a b e f s t p q x y g k l o e0 e1 e2 e3 e4 e5 e6 e7 e8 e9 e10 = cc

-- The setup of a record is the one asked for, where its getters return what was asked.
pub asked_is_read : (config : List ℕ) (setup : SetupValue) (spec : RecordSpec) → IsSetupOf config greatest_side greatest_side setup → HasAskedFields setup spec
    → length setup.sets ≡ length spec.sets.items → HasSets setup 0 (asked_sets spec) → IsSetupOf config greatest_side greatest_side (asked_setup spec)
unfolding setup_with
asked_is_read config setup spec read fields count sets =
    let is = read.is ∙ ap (λ (r : RecordingValue). r.setup) read.record_of.is in
    let read_sets : setup.sets ≡ map (λ set. set_of set.tables) read.record_of.fields.sets = ap (λ z. z.sets) is in
    let many : length (map (λ set. set_of set.tables) read.record_of.fields.sets) ≡ length read.record_of.fields.sets = length-map
    read.record_of.fields.sets (λ set. set_of set.tables) in
    let few : length (asked_sets spec) ≡ length spec.sets.items = length-map spec.sets.items (λ tables. map (λ runs. runs.items) tables.items) in
    let size : length read.record_of.fields.sets ≡ length (asked_sets spec) = sym many ∙ sym (ap length read_sets) ∙ count ∙ sym few in
    let all : setup.sets ≡ map set_of (asked_sets spec) =
    read_sets ∙ same_sets setup 0 read.record_of.fields.sets (asked_sets spec) read_sets read.record_of.accepted.sets size sets in
    subst (IsSetupOf config greatest_side greatest_side)
    (same_setup _ _ _ _ _ _ _ _ _ _ _ _ _ _ _ _ _ _ _ _ _ _ fields.micro fields.has_chroma fields.shift_h fields.shift_v fields.across fields.down all
    fields.ec fields.intra (ap (λ z. z.width) is) (ap (λ z. z.height) is)) read
