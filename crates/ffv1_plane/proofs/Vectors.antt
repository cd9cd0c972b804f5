-- The definitions on worked rows, by computation.
use Rattle.std.proofs.Common.{◌≡◌, ℕ, ◌+◌, ◌-◌, Bool, true, ◌&&◌, min, List, [], ◌∷◌, ℤ, pos, negsuc, nat_lt, refl, arith}
use Rattle.std.specs.Prelude.{◌==◌, if◌then◌else◌}
use Rattle.ffv1_rice.specs.Runs.{whole_length, run_exponent, line_end, whole}
use Rattle.ffv1_plane.specs.Samples.{sample_inside, sample_at, neighbours_at, prediction_of, context_of, difference_of, plane_of, context_at, difference_at, coding_at}
use Rattle.ffv1_plane.specs.Spelling.{Residuals, residuals_of, is_in_run, follows_skipped, skipped_among, run_length, columns_before, values_after, SamplesSpell, RowSpells}
use Rattle.ffv1_plane.specs.Lines.{Line, line_at, lines_of_plane, plane_after_plane, CodedPlanes, first_index, values_after_line, LinesSpell, lines_of_row, row_after_row}

-- a first table of runs 1 and 127, and four of one run
abbrev two_contexts : ℕ → ℕ → ℤ
two_contexts table k =
    if table == 0 then (if k == 0 then pos 0 else if nat_lt k 128 then pos 1 else negsuc 0) else pos 0

-- 5 above 5: the left border of the second row is the first sample of the row above, and 0 stands above that
column_around : neighbours_at 1 (5 ∷ 5 ∷ []) 1 ≡ record { left = 5; top = 5; top_left = 0; top_right = 5; left_of_left = 0; top_of_top = 0 }
unfolding neighbours_at sample_at sample_inside
column_around = refl

-- the second row of 1 2 3 above 4 5 6: after the last column its last sample stands again
after_last_column : neighbours_at 3 (1 ∷ 2 ∷ 3 ∷ 4 ∷ 5 ∷ 6 ∷ []) 5 ≡ record {
  left = 5;
  top = 3;
  top_left = 2;
  top_right = 3;
  left_of_left = 4;
  top_of_top = 0;
}
unfolding neighbours_at sample_at sample_inside
after_last_column = refl

-- the median of 10, 20 and 10 + 20 - 25, and of 3, 4 and 3 + 4 - 9
between : prediction_of (record { left = 10; top = 20; top_left = 25; top_right = 0; left_of_left = 0; top_of_top = 0 }) ≡ 10
unfolding prediction_of
between = refl

inside : prediction_of (record { left = 10; top = 20; top_left = 14; top_right = 0; left_of_left = 0; top_of_top = 0 }) ≡ 16
unfolding prediction_of
inside = refl

-- 250 249 in one row: the second sample has context -1, so that its difference -1 is coded as 1
negative_context : context_at (plane_of 2 (coding_at 8 two_contexts) (250 ∷ 249 ∷ [])) 1 ≡ negsuc 0
unfolding context_of neighbours_at sample_at sample_inside
negative_context = refl

turned : difference_at (plane_of 2 (coding_at 8 two_contexts) (250 ∷ 249 ∷ [])) 1 ≡ pos 1
unfolding context_of neighbours_at sample_at sample_inside prediction_of difference_of
turned = refl

-- 5 over 5: context 1, a scalar
positive_context : context_at (plane_of 1 (coding_at 8 two_contexts) (5 ∷ 5 ∷ [])) 1 ≡ pos 1
unfolding context_of neighbours_at sample_at sample_inside
positive_context = refl

-- ---- at other depths

-- 300 5 in one row of 10 bits: 300 is 44 modulo 256, so the context is 1, and the difference -295 is coded as it is ..
deep_context : context_at (plane_of 2 (coding_at 10 two_contexts) (300 ∷ 5 ∷ [])) 1 ≡ pos 1
unfolding context_of neighbours_at sample_at sample_inside
deep_context = refl

deep_difference : difference_at (plane_of 2 (coding_at 10 two_contexts) (300 ∷ 5 ∷ [])) 1 ≡ negsuc 294
unfolding context_of neighbours_at sample_at sample_inside prediction_of difference_of
deep_difference = refl

-- .. and 900 5 has context -1, since 900 is 132 modulo 256: 895 is coded in 10 bits as -129
turned_deep : difference_at (plane_of 2 (coding_at 10 two_contexts) (900 ∷ 5 ∷ [])) 1 ≡ negsuc 128
unfolding context_of neighbours_at sample_at sample_inside prediction_of difference_of
turned_deep = refl

-- ---- a row and its runs

-- the second row of 5 over 5
second_row : (residuals_of (plane_of 1 (coding_at 8 two_contexts) (5 ∷ 5 ∷ [])) 1).context 0 ≡ pos 1
unfolding residuals_of context_of neighbours_at sample_at sample_inside
second_row = refl

-- a row of three samples: a run that skips two of them, and after it a level of difference 3, in context 1
abbrev three_samples : Residuals
three_samples = record {
  depth = 8;
  width = 3;
  context = λ x. if x == 0 then pos 0 else pos 1;
  difference = λ x. if x == 2 then pos 3 else pos 0;
}

two_skipped : run_length three_samples 0 ≡ 2
unfolding skipped_among is_in_run
two_skipped = refl

level_in_run : is_in_run three_samples 2 ≡ true
unfolding is_in_run
level_in_run = refl

goes_on : follows_skipped three_samples 2 ≡ true
unfolding follows_skipped is_in_run
goes_on = refl

-- the level's value is one less than its difference
one_value_left : values_after (λ context. []) three_samples 1 ≡ pos 2 ∷ []
unfolding is_in_run columns_before
one_value_left = refl

-- ---- lines

-- two planes of two rows and one row, one plane after the other
two_planes : plane_after_plane (λ plane. 2 - plane) 2 ≡ line_at 0 0 ∷ line_at 0 1 ∷ line_at 1 0 ∷ []
unfolding plane_after_plane lines_of_plane
two_planes = refl

-- three planes of two rows, row after row
three_planes : row_after_row 3 2 ≡ line_at 0 0 ∷ line_at 1 0 ∷ line_at 2 0 ∷ line_at 0 1 ∷ line_at 1 1 ∷ line_at 2 1 ∷ []
unfolding row_after_row lines_of_row
three_planes = refl

-- three planes of one sample 0, of which the last two share states, and whose run index starts anew at some lines
abbrev three_zeros : (Line → Bool) → CodedPlanes
three_zeros is_anew = record { plane = λ plane. plane_of 1 (coding_at 8 two_contexts) (0 ∷ []); group = λ plane. min plane 1; is_anew = is_anew }

-- a plane after the other: the run index is 0 at the top of each
anew_at_top : first_index (three_zeros (λ line. line.row == 0)) 5 (line_at 1 0) ≡ 0
anew_at_top = refl

-- row after row: it goes on from plane to plane
on_in_row : first_index (three_zeros (λ line. (line.plane == 0) && (line.row == 0))) 5 (line_at 1 0) ≡ 5
on_in_row = refl

-- one row of one sample 0: a run of one whole length, whatever was coded before
one_zero : (earlier : ℕ → List ℤ) (first : ℕ) → whole_length first ≡ 1
    → RowSpells earlier (residuals_of (plane_of 1 (coding_at 8 two_contexts) (0 ∷ [])) 0) first (true ∷ []) (first + 1)
unfolding SamplesSpell residuals_of is_in_run skipped_among follows_skipped context_of neighbours_at sample_at sample_inside prediction_of difference_of
one_zero earlier first one = (
  [],
  true ∷ [],
  first,
  refl,
  (refl, refl),
  record {
    run = true ∷ [];
    code = [];
    joined = refl;
    run_starts = λ yes. whole 0 0 [] (omega (arith, one)) (omega (arith, one)) refl (line_end refl refl refl refl);
    no_run_starts = λ no. absurd cc;
    coded = λ yes. absurd cc;
    not_coded = λ no. refl;
  },
)

-- Two planes of one sample 0, one after the other, have a one each at the run index 0, which leaves it at 1 ..
zeros_apart : LinesSpell (three_zeros (λ line. line.row == 0)) (λ group context. []) 0 (line_at 0 0 ∷ line_at 1 0 ∷ []) (true ∷ true ∷ []) 1
unfolding LinesSpell values_after_line run_exponent
zeros_apart = (true ∷ [], true ∷ [], 1, refl, one_zero _ 0 refl, (true ∷ [], [], 1, refl, one_zero _ 0 refl, (refl, refl)))

-- .. and row after row the second one goes on at 1, and leaves it at 2.
zeros_on : LinesSpell (three_zeros (λ line. (line.plane == 0) && (line.row == 0))) (λ group context. []) 0 (line_at 0 0 ∷ line_at 1 0 ∷ []) (true ∷ true ∷ []) 2
unfolding LinesSpell values_after_line run_exponent
zeros_on = (true ∷ [], true ∷ [], 1, refl, one_zero _ 0 refl, (true ∷ [], [], 2, refl, one_zero _ 1 refl, (refl, refl)))
