-- The content of an element of the top that is no Cluster.
use Rattle.std.proofs.Common.{◌≡◌, ℕ, ◌+◌, ◌≤◌, Bool, true, false, cond, eqb, List, [], ◌∷◌, length, drop, refl, sym, ap, ◌∙◌, subst, arith, rules, inl, inr}
use Rattle.std.specs.Prelude.{◌⊎◌, ◌≢◌, IsTrue, ◌↔◌, Option, Some, None, Contains}
use Rattle.std.specs.List.{AllByRecursion, concat}
use Rattle.std.proofs.lemmas.Bool.{eqb-true}
use Rattle.std.proofs.lemmas.List.{length-append, length-drop, drop_all}
use Rattle.ebml.specs.Children.{IsChild, AreChildren}
use Rattle.ebml.specs.Masters.{ebml_id, cluster_id, ebml_ids, info_ids, only_ids, child_ids}
use Rattle.matroska.specs.declared.track.Track.{Track}
use Rattle.matroska_parts.specs.TopElements.{top_element_of}
use Rattle.matroska_parts.specs.declared.top_elements.TopElement.{TopElement}
use Rattle.matroska_parts.specs.declared.top_elements.TopElement.TheVariants as tops
use Rattle.matroska_parts.specs.declared.masters.ChildKind.TheVariants as child
use Rattle.matroska_parts.specs.MasterParts.{child_kind, EachHasParts, unknown_parts, IsMasterChildBy, IsMasterChild, AreContentPartsBy, AreContentParts}
use Rattle.matroska_parts.specs.Openings.{IsMatroska, AreDocParts}
use Rattle.matroska_parts.specs.Inner.Inside.{doc_parts, IsInsideOf}

-- ---- the masters of the top have no blocks, but for a Cluster

abbrev AreOther : List ℕ → Type 0
AreOther ids = (x : ℕ) → Contains ids x → child_kind x ≡ child.Other

other_ebml : AreOther ebml_ids
other_ebml x known = search rules

other_info : AreOther info_ids
other_info x known = search rules

other_seek : AreOther (only_ids 0x4DBB)
other_seek x known = search rules

other_tracks : AreOther (only_ids 0xAE)
other_tracks x known = search rules

other_cues : AreOther (only_ids 0xBB)
other_cues x known = search rules

other_attachments : AreOther (only_ids 0x61A7)
other_attachments x known = search rules

other_chapters : AreOther (only_ids 0x45B9)
other_chapters x known = search rules

other_tags : AreOther (only_ids 0x7373)
other_tags x known = search rules

-- a choice of a list
chosen : (b : Bool) (xs ys : List ℕ) (o : Option (List ℕ)) → cond b (Some xs) o ≡ Some ys → ((b ≡ true) × (xs ≡ ys)) ⊎ (o ≡ Some ys)
chosen true xs ys o e = let same : xs ≡ ys = cc in inl (refl, same)
chosen false xs ys o e = inr e

take_other : (xs ys : List ℕ) → AreOther xs → xs ≡ ys → AreOther ys
take_other xs ys other same = subst AreOther same other

pub all_other : (id : ℕ) (ids : List ℕ) → child_ids id ≡ Some ids → (id ≢ cluster_id) → (id ≢ 0xA0) → AreOther ids
all_other id ids is no_cluster no_group =
    elim (chosen (eqb id ebml_id) ebml_ids ids _ is) [
      | inl h ↦ take_other ebml_ids ids other_ebml h.1
      | inr seek ↦ elim (chosen (eqb id 0x114D9B74) (only_ids 0x4DBB) ids _ seek) [
        | inl h ↦ take_other (only_ids 0x4DBB) ids other_seek h.1
        | inr info ↦ elim (chosen (eqb id 0x1549A966) info_ids ids _ info) [
          | inl h ↦ take_other info_ids ids other_info h.1
          | inr tracks ↦ elim (chosen (eqb id 0x1654AE6B) (only_ids 0xAE) ids _ tracks) [
            | inl h ↦ take_other (only_ids 0xAE) ids other_tracks h.1
            | inr cues ↦ elim (chosen (eqb id 0x1C53BB6B) (only_ids 0xBB) ids _ cues) [
              | inl h ↦ take_other (only_ids 0xBB) ids other_cues h.1
              | inr cluster ↦ elim (chosen (eqb id cluster_id) _ ids _ cluster) [
                | inl h ↦ absurd (no_cluster (eqb-true id cluster_id h.0))
                | inr group ↦ elim (chosen (eqb id 0xA0) _ ids _ group) [
                  | inl h ↦ absurd (no_group (eqb-true id 0xA0 h.0))
                  | inr attachments ↦ elim (chosen (eqb id 0x1941A469) (only_ids 0x61A7) ids _ attachments) [
                    | inl h ↦ take_other (only_ids 0x61A7) ids other_attachments h.1
                    | inr chapters ↦ elim (chosen (eqb id 0x1043A770) (only_ids 0x45B9) ids _ chapters) [
                      | inl h ↦ take_other (only_ids 0x45B9) ids other_chapters h.1
                      | inr tags ↦ elim (chosen (eqb id 0x1254C367) (only_ids 0x7373) ids None tags) [
                        | inl h ↦ take_other (only_ids 0x7373) ids other_tags h.1
                        | inr none ↦ let e : ◌≡◌ {A = Option (List ℕ)} None (Some ids) = none in absurd cc
                      ]
                    ]
                  ]
                ]
              ]
            ]
          ]
        ]
      ]
    ]

pub no_group : (id : ℕ) (element : TopElement) → top_element_of id ≡ Some element → id ≢ 0xA0
no_group id element known same =
    let none : ◌≡◌ {A = Option TopElement} None (Some element) = subst (λ n. top_element_of n ≡ Some element) same known in absurd cc

-- ---- parts

no_own : (tracks : List Track) (vouched : Bool) (ids : List ℕ) (place : ℕ) (children : List (List ℕ)) → AreOther ids → AllByRecursion (IsChild ids) children
    → EachHasParts (IsMasterChild tracks vouched) place children []
no_own tracks vouched ids place [] other each = refl
no_own tracks vouched ids place (c ∷ cs) other each =
    let head = each.0.head in
    let is : child_kind each.0.head.id ≡ child.Other = other each.0.head.id each.0.known in (
      [],
      [],
      refl,
      (each.0.head, each.0.element, subst (λ k. IsMasterChildBy k tracks vouched place each.0.head.length c (drop each.0.head.length c) []) (sym is) refl),
      no_own tracks vouched ids (place + length c) cs other each.1,
    )

pub master_parts : (id : ℕ) (ids content : List ℕ) (children : List (List ℕ)) (at : ℕ) → child_ids id ≡ Some ids → AreOther ids → at ≤ length content
    → AreChildren ids content children (drop at content) → (tracks : List Track) (vouched : Bool) (place : ℕ)
    → AreContentParts id tracks vouched place content (unknown_parts (place + at) (drop at content))
master_parts id ids content children at is other within are tracks vouched place =
    let long : at ≡ length (concat children) =
    omega (arith, within, ap length are.joined, length-append (concat children) (drop at content), length-drop at content) in
    subst (λ o. AreContentPartsBy o tracks vouched place content (unknown_parts (place + at) (drop at content))) (sym is)
    record {
      children = children;
      rest = drop at content;
      are_children = are;
      own = [];
      each = no_own tracks vouched ids place children other are.each;
      joined = ap (λ k. unknown_parts (place + k) (drop at content)) long;
    }

no_doc : (element : TopElement) → (element ≡ tops.Ebml → ⊥) → (place : ℕ) (content : List ℕ) → AreDocParts element place content []
no_doc tops.Ebml other place content = absurd (other refl)
no_doc tops.Segment other place content = refl
no_doc tops.SeekHead other place content = refl
no_doc tops.Info other place content = refl
no_doc tops.Tracks other place content = refl
no_doc tops.Cues other place content = refl
no_doc tops.Cluster other place content = refl
no_doc tops.Attachments other place content = refl
no_doc tops.Chapters other place content = refl
no_doc tops.Tags other place content = refl
no_doc tops.Void other place content = refl

skip : (b : Bool) (x : TopElement) (o : Option TopElement) → cond b (Some x) o ≡ Some tops.Ebml → (x ≡ tops.Ebml → ⊥) → o ≡ Some tops.Ebml
skip true x o e isnt = let same : x ≡ tops.Ebml = cc in absurd (isnt same)
skip false x o e isnt = e

first_not : (b : Bool) (o : Option TopElement) → b ≡ false → cond b (Some tops.Ebml) o ≡ Some tops.Ebml → o ≡ Some tops.Ebml
first_not true o isnt e = absurd cc
first_not false o isnt e = e

only_ebml : (id : ℕ) → eqb id ebml_id ≡ false → top_element_of id ≡ Some tops.Ebml → ⊥
only_ebml id isnt known =
    let seek = skip (eqb id 0x18538067) tops.Segment _ (first_not (eqb id ebml_id) _ isnt known) (λ e. cc) in
    let info = skip (eqb id 0x114D9B74) tops.SeekHead _ seek (λ e. cc) in
    let tracks = skip (eqb id 0x1549A966) tops.Info _ info (λ e. cc) in
    let cues = skip (eqb id 0x1654AE6B) tops.Tracks _ tracks (λ e. cc) in
    let cluster = skip (eqb id 0x1C53BB6B) tops.Cues _ cues (λ e. cc) in
    let attachments = skip (eqb id 0x1F43B675) tops.Cluster _ cluster (λ e. cc) in
    let chapters = skip (eqb id 0x1941A469) tops.Attachments _ attachments (λ e. cc) in
    let tags = skip (eqb id 0x1043A770) tops.Chapters _ chapters (λ e. cc) in
    let void = skip (eqb id 0x1254C367) tops.Tags _ tags (λ e. cc) in
    let last = skip (eqb id 0xEC) tops.Void None void (λ e. cc) in
    let none : ◌≡◌ {A = Option TopElement} None (Some tops.Ebml) = last in absurd cc

-- an EBML is a master
pub no_ebml : (id : ℕ) (element : TopElement) → top_element_of id ≡ Some element → child_ids id ≡ None → element ≡ tops.Ebml → ⊥
no_ebml id element known none same = go (eqb id ebml_id) refl
  where
    go : (b : Bool) → eqb id ebml_id ≡ b → ⊥
    go true e =
        let some : child_ids id ≡ Some ebml_ids = ap child_ids (eqb-true id ebml_id e) in
        let both : ◌≡◌ {A = Option (List ℕ)} None (Some ebml_ids) = sym none ∙ some in absurd cc
    go false e = only_ebml id e (known ∙ ap (λ (x : TopElement). Some x) same)

pub leaf_inside : (id : ℕ) (element : TopElement) (content : List ℕ) (n : ℕ) → child_ids id ≡ None → (element ≡ tops.Ebml → ⊥) → n ≡ length content
    → IsInsideOf id element content record { length = n; children = n; is_matroska = true }
leaf_inside id element content n none other long = record {
  long = long;
  within = omega (arith, long);
  parts = λ tracks vouched place.
      subst (λ o. AreContentPartsBy o tracks vouched place content (unknown_parts (place + n) (drop n content))) (sym none)
      (ap (unknown_parts (place + n)) (drop_all n content (omega (arith, long))));
  doc = λ place. no_doc element other place content;
}

pub master_inside : (id : ℕ) (element : TopElement) (ids content : List ℕ) (children : List (List ℕ)) (n at : ℕ) → child_ids id ≡ Some ids → (id ≢ cluster_id) → (id ≢ 0xA0)
    → (element ≡ tops.Ebml → ⊥) → n ≡ length content → at ≤ length content → AreChildren ids content children (drop at content)
    → IsInsideOf id element content record { length = n; children = at; is_matroska = true }
master_inside id element ids content children n at is no_cluster no_group' other long within are = record {
  long = long;
  within = within;
  parts = master_parts id ids content children at is (all_other id ids is no_cluster no_group') within are;
  doc = λ place. no_doc element other place content;
}

doc_by : (b : Bool) (content : List ℕ) → IsTrue b ↔ IsMatroska content → (place : ℕ) → AreDocParts tops.Ebml place content (doc_parts b place)
doc_by true content is place = inl (is.0 refl, refl)
doc_by false content is place = inr (λ matroska. let e : ◌≡◌ {A = Bool} false true = is.1 matroska in absurd cc, refl)

pub ebml_inside : (id : ℕ) (ids content : List ℕ) (children : List (List ℕ)) (n at : ℕ) (b : Bool) → child_ids id ≡ Some ids → (id ≢ cluster_id) → (id ≢ 0xA0)
    → n ≡ length content → at ≤ length content → AreChildren ids content children (drop at content) → IsTrue b ↔ IsMatroska content
    → IsInsideOf id tops.Ebml content record { length = n; children = at; is_matroska = b }
ebml_inside id ids content children n at b is no_cluster no_group' long within are doc = record {
  long = long;
  within = within;
  parts = master_parts id ids content children at is (all_other id ids is no_cluster no_group') within are;
  doc = doc_by b content doc;
}
