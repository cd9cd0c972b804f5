-- What the command `splice` makes of copies rests on the set of the copies, and is the original where the splice is.
use Rattle.std.proofs.Common.{◌≡◌, ℕ, ◌+◌, ◌<◌, ◌≤◌, Bool, true, false, List, [], ◌∷◌, ◌++◌, length, get_or, map, Option, Some, refl, sym, ap, ◌∙◌, subst, arith}
use Rattle.std.specs.Prelude.{◌↔◌, IsTrue, All, slice_range}
use Rattle.std.specs.List.{flat_map}
use Rattle.std.proofs.lemmas.List.Elements.{All-head, All-tail, Contains-get_or}
use Rattle.ffv1_slice.specs.Chain.{link_of}
use Rattle.ffv1_slice.specs.Walk.{links_of}
use Rattle.ffv1_slice.proofs.NearLaws.{length-range}
use Rattle.ffv1_splice.specs.Splice.{SplicedValue, IsSpliceOf, IsSettledOrWoven, IsGivenBack}
use Rattle.ffv1_splice.specs.Laws as splice
use Rattle.ffv1_splice.specs.declared.place.Standing.TheVariants.{Settled}
use Rattle.ffv1_splice.specs.declared.place.Place.{Place}
use Rattle.ffv1_splice.proofs.OneSplice.{same_copies_splice}
use Rattle.ffv1_splice.proofs.OriginalLaws.{original_is_spliced}
use Rattle.ffv1_splice.proofs.NearCopies.{near_copies_splice}
use Rattle.ffv1_splice.proofs.WovenLaws.{given_back_is_original}
use Rattle.ffv1_splice.proofs.SplicePlaces.{places_within}
use Rattle.ffv1_commands.specs.Commands.{IsNoFaultOfBytes}
use Rattle.ffv1_splice.specs.Text.{front_line}
use Rattle.ffv1_commands.specs.SpliceText.{standing_line, splice_text, SpliceStops}
use Rattle.ffv1_commands.specs.SpliceLaws.{Made, SplicesTo, settled_line, whole_of, GiveOnly, GiveOnlyIfTrue, SameCopiesMakeOneSplice, SpliceGivesTheOriginal, SpliceGivesNearCopies, SpliceGivesWovenCopies, SpliceGivesNearWovenCopies}
use Rattle.ffv1_commands.specs.declared.fault.CliFault.{CliFault}
use Rattle.ffv1_commands.specs.declared.fault.CliFault.TheVariants as faults
use Rattle.ffv1_commands.proofs.CommandLaws.{whole_inputs}

-- ---- what is made is what the splice says

-- what the command makes and returns, as the splice says it
pub record IsMadeBy (copies : List (List ℕ)) (spliced : SplicedValue) (made : Made) : Type 0 where
  pub is_splice : IsSpliceOf copies spliced
  pub file : made.file ≡ spliced.payload
  pub printed : made.printed ≡ splice_text spliced
  pub returned : IsTrue made.returned ↔ IsGivenBack spliced

pub made_by : (copies : List (List ℕ)) (made : Made) → SplicesTo copies made → (spliced : SplicedValue) × IsMadeBy copies spliced made
made_by copies made is = (
  is.spliced,
  record {
    is_splice = subst (λ (all : List (List ℕ)). IsSpliceOf all is.spliced) (sym (whole_inputs copies is.copies is.read)) is.is_splice;
    file = is.payload;
    printed = is.printed;
    returned = is.given_back;
  },
)

same_result : (a b : Bool) → (IsTrue a → IsTrue b) → (IsTrue b → IsTrue a) → a ≡ b
same_result true true on back = refl
same_result true false on back = sym (on refl)
same_result false true on back = back refl
same_result false false on back = refl

-- of one splice one is made
one_made : (copies others : List (List ℕ)) (spliced : SplicedValue) (one other : Made) → IsMadeBy copies spliced one → IsMadeBy others spliced other
    → one ≡ other
one_made copies others spliced one other h k =
    let file : one.file ≡ other.file = h.file ∙ sym k.file in
    let printed : one.printed ≡ other.printed = h.printed ∙ sym k.printed in
    let returned : one.returned ≡ other.returned =
    same_result one.returned other.returned (λ t. k.returned.1 (h.returned.0 t)) (λ t. h.returned.1 (k.returned.0 t)) in
    λ i. record { file = file i; printed = printed i; returned = returned i }

pub same_copies_make_one_splice : SameCopiesMakeOneSplice
same_copies_make_one_splice copies others one other same h k =
    let mine = made_by copies one h in
    let yours = made_by others other k in
    let both : mine.0 ≡ yours.0 = same_copies_splice copies others mine.0 yours.0 same mine.1.is_splice yours.1.is_splice in
    one_made copies others yours.0 one other (subst (λ s. IsMadeBy copies s one) both mine.1) yours.1

-- ---- the original

-- the lines of settled places that are links of the original
settled_lines : (original : List ℕ) (places : List Place) → All (λ place. place.standing ≡ Settled) places
    → All (λ place. place.start ≤ place.end × place.end ≤ length original) places
    → flat_map standing_line places ≡ flat_map settled_line (map (λ place. link_of original place.start place.end) places)
settled_lines original [] settled within = refl
settled_lines original (place ∷ places) settled within =
    let stands : place.standing ≡ Settled = All-head (λ place. place.standing ≡ Settled) place places settled in
    let inside = All-head (λ place. place.start ≤ place.end × place.end ≤ length original) place places within in
    let end : place.end ≡ place.start + length (slice_range original place.start place.end) =
    omega (arith, length-range original place.start place.end inside.0 inside.1) in
    let line : standing_line place ≡ settled_line (link_of original place.start place.end) =
    λ i. standing_line (record { start = place.start; end = end i; standing = stands i }) in
    let rest = settled_lines original places (All-tail (λ place. place.standing ≡ Settled) place places settled)
    (All-tail (λ place. place.start ≤ place.end × place.end ≤ length original) place places within) in
    λ i. line i ++ rest i

module _ (original : List ℕ) (copies : List (List ℕ)) (spliced : SplicedValue) (is : IsSpliceOf copies spliced)
    (given : splice.IsSplicedOriginal original spliced) where
  within : All (λ place. place.start ≤ place.end × place.end ≤ length original) spliced.places
  within =
      subst (λ n. All (λ place. place.start ≤ place.end × place.end ≤ n) spliced.places) (ap length given.payload)
      (places_within copies spliced is)

  original_text : splice_text spliced ≡ (whole_of original).printed
  original_text =
      let lines : flat_map standing_line spliced.places ≡ flat_map settled_line (links_of original) =
      settled_lines original spliced.places given.settled within ∙ ap (flat_map settled_line) given.places.links in
      λ i. lines i ++ front_line (given.places.whole i)

  is_given_back : IsGivenBack spliced
  is_given_back = (given.places.whole, λ k d lt. subst IsSettledOrWoven (sym (given.settled k d lt)) tt)

  whole_made : (made : Made) → IsMadeBy copies spliced made → made ≡ whole_of original
  whole_made made by =
      let file : made.file ≡ original = by.file ∙ given.payload in
      let printed : made.printed ≡ (whole_of original).printed = by.printed ∙ original_text in
      let returned : made.returned ≡ true = by.returned.1 is_given_back in
      λ i. record { file = file i; printed = printed i; returned = returned i }

-- copies of one length are refused by devices alone
only_devices : (copies : List (List ℕ)) (size : ℕ) → ((i : ℕ) → i < length copies → length (get_or copies i []) ≡ size)
    → (ob oa pb pa : Option (List ℕ)) (fault : CliFault) → SpliceStops (map Some copies) ob oa pb pa fault → IsNoFaultOfBytes fault
only_devices copies size one ob oa pb pa (faults.Read path) stops = tt
only_devices copies size one ob oa pb pa (faults.Write path) stops = tt
only_devices copies size one ob oa pb pa (faults.Splice path) (read, whole, (index, is, named)) =
    let same : copies ≡ read = whole_inputs copies read whole in
    let all : (i : ℕ) → i < length read → length (get_or read i []) ≡ size =
    subst (λ (cs : List (List ℕ)). (i : ℕ) → i < length cs → length (get_or cs i []) ≡ size) same one in
    let there : index < length read = is.there in
    absurd (is.other (all index is.there ∙ sym (all 0 (omega arith))))
only_devices copies size one ob oa pb pa faults.Memory stops = tt
only_devices copies size one ob oa pb pa fault stops = absurd stops

-- what is made where it is given back
abbrev pub gives_back : List ℕ → List (List ℕ) → Type 0
gives_back original copies = (spliced : SplicedValue) → IsSpliceOf copies spliced → IsGivenBack spliced → spliced.payload ≡ original

gives_if_true : (original : List ℕ) (copies : List (List ℕ)) → ((i : ℕ) → i < length copies → length (get_or copies i []) ≡ length original)
    → gives_back original copies → GiveOnlyIfTrue copies original
gives_if_true original copies one given = record {
  made = λ made is reported.
      let by = made_by copies made is in
      by.1.file ∙ given by.0 by.1.is_splice (by.1.returned.0 reported);
  refused = only_devices copies (length original) one;
}

gives_only : (original : List ℕ) (copies : List (List ℕ)) → ((i : ℕ) → i < length copies → length (get_or copies i []) ≡ length original)
    → ((spliced : SplicedValue) → IsSpliceOf copies spliced → splice.IsSplicedOriginal original spliced) → GiveOnly copies original
gives_only original copies one given = record {
  made = λ made is.
      let by = made_by copies made is in
      whole_made original copies by.0 by.1.is_splice (given by.0 by.1.is_splice) made by.1;
  refused = only_devices copies (length original) one;
}

pub splice_gives_the_original : SpliceGivesTheOriginal
splice_gives_the_original original copies of agree have =
    gives_only original copies (λ i lt. of.one_length (get_or copies i []) (Contains-get_or copies i [] lt))
    (λ spliced is. original_is_spliced original copies spliced of agree have is)

pub splice_gives_near_copies : SpliceGivesNearCopies
splice_gives_near_copies original copies near intact =
    gives_only original copies (λ i lt. (near.near (get_or copies i []) (Contains-get_or copies i [] lt)).same_length)
    (λ spliced is. near_copies_splice.original original copies spliced near intact is)

pub splice_gives_woven_copies : SpliceGivesWovenCopies
splice_gives_woven_copies original copies of weavable =
    gives_if_true original copies (λ i lt. of.one_length (get_or copies i []) (Contains-get_or copies i [] lt))
    (λ spliced is given. (given_back_is_original original copies spliced of weavable is given).1)

pub splice_gives_near_woven_copies : SpliceGivesNearWovenCopies
splice_gives_near_woven_copies original copies near below among =
    gives_if_true original copies (λ i lt. (near.near (get_or copies i []) (Contains-get_or copies i [] lt)).same_length)
    (λ spliced is given. near_copies_splice.woven original copies spliced near below among is given)
