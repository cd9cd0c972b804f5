use Rattle.std.proofs.Common.{◌≡◌, ◌+◌, ◌/◌, ◌%◌, ◌^◌, ℕ, get_or, ap, ◌∙◌}
use Rattle.ebml.proofs.Turned.{turned_entry}
use Rattle.ebml.proofs.Advances.{eight_left}
use Rattle.ebml.proofs.crc.taken.Goals as goal

pub returns : goal.returns
returns c =
    let n : ℕ = c.args.number in
    let more : ℕ = c.args.more in
    let first : c.entry-5.result ≡ turned_entry (more + 7) (n % 256) = c.entry-5.ensures ∙ ap (λ bytes. turned_entry (more + 7) (get_or bytes 0 0)) c.to_le_bytes.ensures in
    let second : c.entry-6.result ≡ turned_entry (more + 6) (n / 2 ^ 8 % 256) = c.entry-6.ensures ∙ ap (λ bytes. turned_entry (more + 6) (get_or bytes 1 0)) c.to_le_bytes.ensures in
    let third : c.entry-7.result ≡ turned_entry (more + 5) (n / 2 ^ 16 % 256) = c.entry-7.ensures ∙ ap (λ bytes. turned_entry (more + 5) (get_or bytes 2 0)) c.to_le_bytes.ensures in
    let fourth : c.entry-8.result ≡ turned_entry (more + 4) (n / 2 ^ 24 % 256) = c.entry-8.ensures ∙ ap (λ bytes. turned_entry (more + 4) (get_or bytes 3 0)) c.to_le_bytes.ensures in
    let fifth : c.entry.result ≡ turned_entry (more + 3) (n / 2 ^ 32 % 256) = c.entry.ensures ∙ ap (λ bytes. turned_entry (more + 3) (get_or bytes 4 0)) c.to_le_bytes.ensures in
    let sixth : c.entry-2.result ≡ turned_entry (more + 2) (n / 2 ^ 40 % 256) = c.entry-2.ensures ∙ ap (λ bytes. turned_entry (more + 2) (get_or bytes 5 0)) c.to_le_bytes.ensures in
    let seventh : c.entry-3.result ≡ turned_entry (more + 1) (n / 2 ^ 48 % 256) = c.entry-3.ensures ∙ ap (λ bytes. turned_entry (more + 1) (get_or bytes 6 0)) c.to_le_bytes.ensures in
    let last : c.entry-4.result ≡ turned_entry more (n / 2 ^ 56 % 256) = c.entry-4.ensures ∙ ap (λ bytes. turned_entry more (get_or bytes 7 0)) c.to_le_bytes.ensures in
    rw (first, second, third, fourth, fifth, sixth, seventh, last)
    (eight_left (n % 256) (n / 2 ^ 8 % 256) (n / 2 ^ 16 % 256) (n / 2 ^ 24 % 256) (n / 2 ^ 32 % 256) (n / 2 ^ 40 % 256) (n / 2 ^ 48 % 256) (n / 2 ^ 56 % 256) more)
