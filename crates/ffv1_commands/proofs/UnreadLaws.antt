-- Inputs that could not be read, and are not too long or too short: a device failed.
use Rattle.std.proofs.Common.{◌≡◌, ◌+◌, ◌<◌, ◌≤◌, ℕ, zero, suc, List, [], ◌∷◌, ◌++◌, length, map, replicate, get_or, Option, Some, None, inl, inr, refl, sym, ap, ◌∙◌, subst, arith}
use Rattle.std.specs.Prelude.{IfSome}
use Rattle.std.proofs.KnownBytes.{Consumes-whole}
use Rattle.std.proofs.lemmas.List.{length-append, length-map, length-replicate}
use Rattle.ffv1_bits.specs.Limits.{payload_limit}
use Rattle.ffv1_devices.specs.Exact.{StopsReading}
use Rattle.ffv1_devices.specs.Logs.{ReadLog}
use Rattle.ffv1_stretches.specs.Listed.{AreStretches}
use Rattle.ffv1_stretches.specs.Passes.{AreReadBut}
use Rattle.ffv1_stretches.specs.Stretches.{AreInOrder, ends_of}
use Rattle.ffv1_stretches.specs.declared.pass.MendFault.TheVariants as stops
use Rattle.ffv1_stretches.proofs.FileLemmas.{AreBelow, LiesWithin, each_within}
use Rattle.ffv1_stretches.proofs.OrderLemmas.{listed_in_order}
use Rattle.ffv1_commands.specs.Devices.{InputBegins, IsGivenUp}
use Rattle.ffv1_commands.specs.InTurn.{WentAt}
use Rattle.ffv1_commands.specs.Lists.{IsList}
use Rattle.ffv1_commands.specs.UnreadLaws.{UnreadIsGivenUp, LongCopyIsGivenUp}
use Rattle.ffv1_commands.proofs.InputLaws.{begins}
use Rattle.ffv1_commands.proofs.MendCommandLaws.{one_list, list_says}
use Rattle.ffv1_commands.proofs.ReadLists.{list_of_bytes}

-- ---- inputs that are not too long

too_long : (bytes read : List ℕ) → InputBegins (Some bytes) read → length bytes ≤ payload_limit → length read ≡ payload_limit + 1 → ⊥
too_long bytes read (rest, is) few long =
    let both : length bytes ≡ length read + length rest = ap length is ∙ length-append read rest in
    omega (arith, both, few, long)

pub unread_is_given_up : UnreadIsGivenUp
unread_is_given_up bytes old new has few (inl (read, broke, within)) = broke.tries'
unread_is_given_up bytes old new has few (inr (read, took, long)) =
    let front = subst (λ (input : Option (List ℕ)). InputBegins input read) has (begins old.remaining new.remaining read took.bytes') in
    absurd (too_long bytes read front few long)

-- ---- copies that are not too short

-- a source that ended before so many bytes of a copy that has them was given up
short_of : (copy file : List ℕ) (old new : ReadLog) (end : ℕ) → old.remaining ≡ Some copy → end ≤ length copy → length file < end → StopsReading old new file
    → IsGivenUp old new
short_of copy file old new end has enough short (inl broke) = broke.tries'
short_of copy file old new end has enough short (inr (read, at_end)) =
    let whole = subst (λ (input : Option (List ℕ)). IfSome input (λ reported. reported ≡ file)) has
    (Consumes-whole old.remaining new.remaining file (λ reported. reported ≡ file) read.bytes' at_end refl) in
    let same : copy ≡ file = whole in
    let long : length copy ≡ length file = ap length same in
    absurd (omega (arith, long, enough, short))

-- the copy that stopped was given up
copy_given_up : (copy size : ℕ) (places : List (Option ℕ)) (copies files : List (List ℕ)) (old new : List ReadLog) (place : ℕ)
    → map (λ log. log.remaining) old ≡ map Some copies → LiesWithin size places copies → get_or places copy None ≡ Some place
    → length (get_or files copy []) < place + size → AreReadBut copy old new files → WentAt IsGivenUp copy old new
copy_given_up copy size [] copies files old new place has within there short stops = absurd (cc)
copy_given_up copy size (p ∷ places) [] files old new place has within there short stops = absurd within
copy_given_up copy size (p ∷ places) (c ∷ copies) files [] new place has within there short stops = absurd (cc)
copy_given_up zero size (None ∷ places) (c ∷ copies) files (o ∷ old) new place has within there short stops = absurd (cc)
copy_given_up zero size (Some p ∷ places) (c ∷ copies) (file ∷ files) (o ∷ old) (n ∷ new) place has within there short stops =
    let here : o.remaining ≡ Some c = cc in
    let same : p ≡ place = cc in
    short_of c file o n (p + size) here within.0 (omega (arith, same, short)) stops.0
copy_given_up (suc copy) size (p ∷ places) (c ∷ copies) (file ∷ files) (o ∷ old) (n ∷ new) place has within there short stops =
    copy_given_up copy size places copies files old new place (cc) within.1 there short stops.1
copy_given_up zero size (Some p ∷ places) (c ∷ copies) files (o ∷ old) [] place has within there short stops = absurd stops
copy_given_up zero size (Some p ∷ places) (c ∷ copies) [] (o ∷ old) (n ∷ new) place has within there short stops = absurd stops
copy_given_up (suc copy) size (p ∷ places) (c ∷ copies) files (o ∷ old) [] place has within there short stops = absurd stops
copy_given_up (suc copy) size (p ∷ places) (c ∷ copies) [] (o ∷ old) (n ∷ new) place has within there short stops = absurd stops

pub long_copy_is_given_up : LongCopyIsGivenUp
long_copy_is_given_up list copies stretches list_old list_new old new oo on po pn place listed enough is_list has (inl ((none, unread), as_before, kept)) = absurd (cc)
long_copy_is_given_up list copies stretches list_old list_new old new oo on po pn place listed enough is_list has
    (inr (stops.Read copy, is, (others, read_list, (front, files, mended, but, mends, ends, wrote, printed)))) =
    let here : place ≡ copy = cc in
    let many : length old ≡ length copies = sym (length-map old (λ (log : ReadLog). log.remaining)) ∙ ap length has ∙ length-map copies Some in
    let says = list_says (λ text. AreStretches (length old) text others) list
    (subst (IsList (λ text. AreStretches (length old) text others)) is_list (list_of_bytes _ list_old list_new read_list)) in
    let same : stretches ≡ others = one_list (length copies) list stretches others listed (subst (λ n. AreStretches n list others) many says) in
    let split : stretches ≡ front ++ ends.stretch ∷ ends.later = same ∙ mends.split ∙ ap (λ rest. front ++ rest) ends.first in
    let order = subst (AreInOrder (length copies) (replicate (length copies) 0)) split (listed_in_order (length copies) listed.lines stretches listed.listed) in
    let below = subst (λ all. AreBelow (ends_of (length copies) all) copies) split enough in
    let within = each_within (length copies) (replicate (length copies) 0) front ends.stretch ends.later copies (length-replicate (length copies) 0) order below in
    subst (λ n. WentAt IsGivenUp n old new) (sym here) (copy_given_up copy ends.stretch.size ends.stretch.places copies files old new ends.place has within ends.there ends.short but)
long_copy_is_given_up list copies stretches list_old list_new old new oo on po pn place listed enough is_list has (inr (stops.Out, is, rest)) = absurd (cc)
long_copy_is_given_up list copies stretches list_old list_new old new oo on po pn place listed enough is_list has (inr (stops.Output, is, rest)) = absurd (cc)
long_copy_is_given_up list copies stretches list_old list_new old new oo on po pn place listed enough is_list has (inr (stops.Memory, is, rest)) = absurd (cc)
