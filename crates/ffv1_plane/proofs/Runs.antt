-- A run, word by word.
use Rattle.std.proofs.Common.{◌≡◌, ℕ, ◌+◌, ◌-◌, ◌<◌, ◌≤◌, Bool, true, List, [], ◌∷◌, ◌++◌, refl, sym, ap, ◌∙◌, subst, arith, append_assoc, ⊎_elim}
use Rattle.ffv1_bits.specs.Reader.{Reading}
use Rattle.ffv1_rice.specs.declared.run.RunWord.TheVariants.{Full, Rest, ToEnd}
use Rattle.ffv1_rice.specs.Runs.{SpellsRun, line_end, whole, rest, over_end, long_rest, whole_length, IsRead, IsShortWord}
use Rattle.ffv1_rice.proofs.OneRun.{whole_length_pos}
use Rattle.ffv1_plane.specs.Stuck.{SpellsFront, no_word, one_word}
use Rattle.ffv1_plane.specs.Inner.Progress.{IsRunRead, IsRunBegun}
use Rattle.ffv1_plane.specs.Inner.Halts.{IsRunCut}

pub begin_run : (left index : ℕ) (bits : List Bool) → IsRunBegun left index bits 0 index bits
begin_run left index bits =
    let all : left ≡ left - 0 = omega arith in
    record {
      words = [];
      begins = refl;
      fits = omega arith;
      front = no_word refl refl refl;
      completes = λ m last others h. let k : 0 + m ≡ m = omega arith in rw k (rw (← all) at h);
    }

pub full_length : (left i n next : ℕ) (bits others : Reading) → IsRead left i (Full n) bits next others → (0 < n) × (n ≤ left)
full_length left i n next bits others h = let p = whole_length_pos i in (omega (arith, h.is_word.0), h.is_word.1)

-- a run that begins with a whole length goes on after it
pub after_whole : (left i m last n : ℕ) (run tail bits : List Bool) → SpellsRun m left i run last → n ≡ whole_length i → n ≤ left → run ++ tail ≡ true ∷ bits
    → (k : ℕ) × (others : List Bool) × SpellsRun k (left - n) (i + 1) others last × (bits ≡ others ++ tail)
after_whole left i m last n run tail bits (line_end a b c d) is fits same = absurd (let p = whole_length_pos i in omega arith)
after_whole left i m last n run tail bits (whole k room others a b c d) is fits same =
    let left_is : room ≡ left - n = omega arith in
    let joined : true ∷ (others ++ tail) ≡ true ∷ bits = ap (λ l. l ++ tail) (sym c) ∙ same in
    (k, others, subst (λ (r : ℕ). SpellsRun k r (i + 1) others last) left_is d, cc)
after_whole left i m last n run tail bits (rest a b c d) is fits same = absurd (let joined = ap (λ l. l ++ tail) (sym c) ∙ same in cc)
after_whole left i m last n run tail bits (over_end a b c d e) is fits same = absurd (omega arith)
after_whole left i m last n run tail bits (long_rest given a b c d e f) is fits same = absurd (omega arith)

-- one whole length more
front_more : {done i next : ℕ} {words : List Bool} → SpellsFront done i words next → SpellsFront (done + whole_length next) i (words ++ (true ∷ [])) (next + 1)
front_more {next = next} (no_word a b c) = one_word 0 [] (omega (arith, a, ap whole_length c))
    (ap (λ l. l ++ (true ∷ [])) b) (no_word refl refl (ap (λ k. k + 1) c))
front_more {next = next} (one_word m others a b c) = one_word (m + whole_length next) (others ++ (true ∷ [])) (omega (arith, a))
    (ap (λ l. l ++ (true ∷ [])) b) (front_more c)

pub more_run : (left index done i n next : ℕ) (bits : List Bool) (words others : Reading) → IsRunBegun left index bits done i words.left
    → IsRead (left - done) i (Full n) words next others → IsRunBegun left index bits (done + n) next others.left
more_run left index done i n next bits words others a b =
    let room : left - done - n ≡ left - (done + n) = omega arith in
    let next_is : next ≡ i + 1 = b.is_word.3 in
    let read : words.left ≡ (true ∷ []) ++ others.left = b.reads.begins ∙ ap (λ l. l ++ others.left) b.is_word.2 in
    record {
      words = a.words ++ (true ∷ []);
      begins = a.begins ∙ ap (λ l. a.words ++ l) read ∙ sym (append_assoc a.words (true ∷ []) others.left);
      fits = omega (arith, a.fits, b.is_word.1);
      front =
          let P : ℕ → Type 0 = λ k. SpellsFront (done + k) index (a.words ++ (true ∷ [])) (i + 1) in
          let Q : ℕ → Type 0 = λ k. SpellsFront (done + n) index (a.words ++ (true ∷ [])) k in
          subst Q (sym next_is) (subst P (sym b.is_word.0) (front_more a.front));
      completes = λ m last tail h.
          let inner : SpellsRun m (left - done - n) (i + 1) tail last = rw (room, ← next_is) h in
          let step : SpellsRun (n + m) (left - done) i (true ∷ tail) last = whole m (left - done - n) tail (omega (arith, b.is_word.0))
          (omega (arith, b.is_word.0, b.is_word.1, a.fits)) refl inner in
          let sum : done + n + m ≡ done + (n + m) = omega arith in
          rw sum (rw (append_assoc a.words (true ∷ []) tail) (a.completes (n + m) last (true ∷ tail) step));
    }

close : (left index done i m last : ℕ) (bits words others tail : List Bool) → (a : IsRunBegun left index bits done i words) → words ≡ others ++ tail
    → m ≤ left - done → SpellsRun m (left - done) i others last → IsRunRead left index bits (done + m) last tail
close left index done i m last bits words others tail a same fits h = record {
  run = a.words ++ others;
  spelled = a.completes m last others h;
  begins = a.begins ∙ ap (λ l. a.words ++ l) same ∙ sym (append_assoc a.words others tail);
  fits = omega (arith, a.fits, fits);
}

pub rest_run : (left index done i n next : ℕ) (bits : List Bool) (words others : Reading) → IsRunBegun left index bits done i words.left
    → IsRead (left - done) i (Rest n) words next others → IsRunRead left index bits (done + n) next others.left
rest_run left index done i n next bits words others a b =
    close left index done i n next bits words.left b.spelled others.left a b.reads.begins (omega (arith, b.is_word.1))
    (rest b.is_word.0 b.is_word.1 b.is_word.2 b.is_word.3)

pub end_run : (left index done i next : ℕ) (bits : List Bool) (words others : Reading) → done < left → IsRunBegun left index bits done i words.left
    → IsRead (left - done) i ToEnd words next others → IsRunRead left index bits left next others.left
end_run left index done i next bits words others before a b =
    let sum : done + (left - done) ≡ left = omega (arith, a.fits) in
    let whole_line : IsRunRead left index bits (done + (left - done)) next others.left =
    close left index done i (left - done) next bits words.left b.spelled others.left a b.reads.begins (omega arith)
    (⊎_elim (λ p. over_end p.0 (omega arith) refl p.1 p.2) (λ p. long_rest p.0 p.1 p.2 (omega arith) refl p.3 p.4) b.is_word) in
    rw sum at whole_line

pub line_run : (left index done i : ℕ) (bits words : List Bool) → left ≤ done → IsRunBegun left index bits done i words → IsRunRead left index bits done i words
line_run left index done i bits words all a =
    let sum : done + 0 ≡ done = omega arith in
    let none : IsRunRead left index bits (done + 0) i words = close left index done i 0 i bits words [] words a refl (omega arith)
    (line_end refl (omega (arith, all)) refl refl) in
    rw sum at none

-- where a word is cut, the run is
pub cut_run : (left index done i : ℕ) (bits words : List Bool) → done < left → IsRunBegun left index bits done i words → IsShortWord i words
    → IsRunCut left index bits done
cut_run left index done i bits words before a cut = record {
  words = a.words;
  next = i;
  others = words;
  begins = a.begins;
  front = a.front;
  inside = before;
  cut = cut;
}

-- what `read_run` rests on: where the reading of a run begins, what each word does to it, and where it ends
pub ruleset run_steps = (begin_run, full_length, more_run, rest_run, end_run, line_run, cut_run)
