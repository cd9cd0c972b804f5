-- A CRC-32 that goes over a content, piece by piece.
use Rattle.std.proofs.Common.{◌≡◌, ℕ, ◌+◌, ◌-◌, ◌<◌, ◌≤◌, List, [], ◌++◌, length, take, drop, min, sym, ap, ◌∙◌, subst, arith, inl, inr}
use Rattle.std.proofs.lemmas.Bool.{cases_lt}
use Rattle.std.proofs.lemmas.List.{length-append, length-take, length-take-le, take-append-drop, take-append-le, drop-append-le, append-nil, take_all}
use Rattle.std.proofs.Math.Seq.{take-append-add, drop-append-add}
use Rattle.ebml.specs.Crc.{crc32_of}
use Rattle.ebml.specs.CrcElement.{HasCrc32}
use Rattle.ebml.proofs.Advances.{crc32_of_none}
use Rattle.ebml_reader.specs.RunningCrc.{RunsOver}

-- a front of a front
front_of_front : (xs : List ℕ) → 6 ≤ length xs → take 2 (take 6 xs) ≡ take 2 xs
front_of_front xs long =
    sym (take-append-le 2 (take 6 xs) (drop 6 xs) (omega (arith, length-take-le 6 xs long))) ∙ ap (take 2) (take-append-drop 6 xs)

pub has_by_front : (xs : List ℕ) → HasCrc32 (take 6 xs) → HasCrc32 xs
has_by_front xs has =
    let long = has.0 in
    let there : 6 ≤ length xs = omega (arith, long, length-take 6 xs) in
    (there, sym (front_of_front xs there) ∙ has.1)

module _ (content piece front : List ℕ) (n crc : ℕ) (so_far : RunsOver content record { front = front; crc = crc }) (count : n ≡ min (6 - length front) (length piece)) where
  long_front : length front ≡ min 6 (length content)
  long_front = ap length so_far.front ∙ length-take 6 content

  front_long : 6 ≤ length content → front ++ take n piece ≡ take 6 (content ++ piece)
  front_long long =
      let none : n ≡ 0 = omega (arith, long, count, long_front) in
      ap (λ k. front ++ take k piece) none ∙ append-nil front ∙ so_far.front ∙ sym (take-append-le 6 content piece long)

  taken_short : length content < 6 → take n piece ≡ take (6 - length content) piece
  taken_short short = elim (cases_lt (length piece) (6 - length content)) [
    | inl less ↦
        let all : length piece ≤ n = omega (arith, short, count, long_front, less) in
        take_all n piece all ∙ sym (take_all (6 - length content) piece (omega (arith, less)))
    | inr more ↦ ap (λ k. take k piece) (omega (arith, short, count, long_front, more))
  ]

  front_short : length content < 6 → front ++ take n piece ≡ take 6 (content ++ piece)
  front_short short =
      let six : length content + (6 - length content) ≡ 6 = omega (arith, short) in
      ap (λ l. l ++ take n piece) (so_far.front ∙ take_all 6 content (omega (arith, short))) ∙ ap (λ l. content ++ l) (taken_short short)
      ∙ sym (take-append-add content piece (6 - length content)) ∙ ap (λ k. take k (content ++ piece)) six

  pub front_more : front ++ take n piece ≡ take 6 (content ++ piece)
  front_more = elim (cases_lt (length content) 6) [ inl short ↦ front_short short | inr long ↦ front_long long ]

  module _ (later : ℕ) (advances : (bytes : List ℕ) → crc ≡ crc32_of bytes → later ≡ crc32_of (bytes ++ drop n piece)) where
    crc_long : 6 ≤ length content → HasCrc32 (content ++ piece) → later ≡ crc32_of (drop 6 (content ++ piece))
    crc_long long has =
        let none : n ≡ 0 = omega (arith, long, count, long_front) in
        let before : HasCrc32 content = (long, sym (take-append-le 2 content piece (omega (arith, long))) ∙ has.1) in
        advances (drop 6 content) (so_far.crc before)
        ∙ ap (λ k. crc32_of (drop 6 content ++ drop k piece)) none ∙ ap crc32_of (sym (drop-append-le 6 content piece long))

    crc_short : length content < 6 → HasCrc32 (content ++ piece) → later ≡ crc32_of (drop 6 (content ++ piece))
    crc_short short has =
        let long = has.0 in
        let six : length content + (6 - length content) ≡ 6 = omega (arith, short) in
        let rest : n ≡ 6 - length content = omega (arith, short, long, length-append content piece, count, long_front) in
        advances [] (so_far.none short ∙ sym crc32_of_none)
        ∙ ap (λ k. crc32_of (drop k piece)) rest ∙ ap crc32_of (sym (drop-append-add content piece (6 - length content)) ∙ ap (λ k. drop k (content ++ piece)) six)

    pub pushed : HasCrc32 (front ++ take n piece) → RunsOver (content ++ piece) record { front = front ++ take n piece; crc = later }
    pushed has =
        let there : HasCrc32 (content ++ piece) = has_by_front (content ++ piece) (subst HasCrc32 front_more has) in
        let long = there.0 in
        record {
          front = front_more;
          none = λ short. absurd (omega (arith, short, long));
          crc = λ all. elim (cases_lt (length content) 6) [ inl short ↦ crc_short short all | inr enough ↦ crc_long enough all ];
        }
