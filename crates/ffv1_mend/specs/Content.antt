-- The bytes of a stretch, as the code has them.
use Rattle.std.specs.Prelude.{ℕ, Option, Some, None, List, [], ◌∷◌}
use Rattle.ffv1_mend.specs.Improved.{PartValue}
use Rattle.ffv1_mend.specs.Improved.PartValue.{spliced}
use Rattle.ffv1_mend.specs.declared.content.Content.{Content}
use Rattle.ffv1_mend.specs.declared.content.Content.TheVariants as content

abbrev pub content_bytes : Content → List ℕ
content_bytes (content.Version bytes) = bytes.now
content_bytes (content.Made bytes) = bytes.items

-- where a stretch has no content of its own, it has that of its first part, which is a splice
abbrev pub held_bytes : Option Content → List PartValue → List ℕ
held_bytes (Some held) mends = content_bytes held
held_bytes None (spliced splice ∷ mends) = splice.payload
held_bytes None _ = []
