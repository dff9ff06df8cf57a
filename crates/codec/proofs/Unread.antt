-- Bytes beyond the DLC are not read.
use Prim.Native.Nat.{ℕ, ◌+◌, ◌-◌, ◌<◌, ◌≤◌}
use mathlib.Core.Path.{◌≡◌, refl, sym, ap, ◌∙◌}
use mathlib.Core.Bool.{false}
use mathlib.Core.List.{List}
use native.Mathlib.Omega.{arith}
use lib.ListN.{length, take, length-take}
use lib.Seq.{get_or-take}
use lib.Dec.{eqb, leb}
use borrow.Author.Tests.{eqb-true, eqb-false, leb-true}
use Rattle.laws.specs.Bytes.{byte_at}
use Rattle.laws.specs.Checks.{first_of}
use Rattle.laws.specs.Put.{Agree}
use Rattle.laws.proofs.Tests.{split}
use Rattle.laws.proofs.Bytes.{get_d_past, length_padded}
use Rattle.laws.proofs.Put.{same_part}
use Rattle.std.specs.Prelude.{Ok}
use Rattle.codec.specs.Names.{frame_size}
use Rattle.codec.specs.Fields.{header_of}
use Rattle.codec.specs.Reading.{read_checks, subject_of, long_of, message_of, read_of}
use Rattle.codec.specs.Writing.{cleared_of}
use Rattle.codec.proofs.Headers.{ten_of, long_of_lem}
use Rattle.codec.proofs.Long.{message_long}

-- two records of ten bytes that agree up to the DLC
module _ (r s : List ℕ) (n : length r ≡ frame_size) (m : length s ≡ frame_size) (e : Agree (λ i. i < (header_of r).dlc + 2) s r) where
  same_byte0 : byte_at s 0 ≡ byte_at r 0
  same_byte0 = e 0 (omega arith)

  same_byte1 : byte_at s 1 ≡ byte_at r 1
  same_byte1 = e 1 (omega arith)

  same_header : 2 ≤ (header_of r).dlc → header_of s ≡ header_of r
  unfolding header_of
  same_header h = simp (same_byte0, same_byte1, e 2 (omega arith), e 3 (omega arith))

  -- a DLC below 2 has no check look at bytes 2 and 3
  same_few : leb 2 (header_of r).dlc ≡ false → first_of (read_checks s) ≡ first_of (read_checks r)
  unfolding header_of
  same_few f = simp (n, m, same_byte0, same_byte1, f)

  same_checks : first_of (read_checks s) ≡ first_of (read_checks r)
  same_checks = split (leb 2 (header_of r).dlc) (λ t. rw (n, m, same_header (leb-true 2 _ t))) same_few

  same_short : (header_of r).dlc ≡ 0 → message_of s ≡ message_of r
  unfolding header_of message_of
  same_short z = simp (same_byte0, same_byte1, z)

  same_long : first_of (read_checks r) ≡ 0 → ((header_of r).dlc ≡ 0 → ⊥) → message_of s ≡ message_of r
  same_long c z =
      let h = header_of r in
      let l = long_of_lem h (ten_of r c).1 z in
      let p = same_part (λ i. i < h.dlc + 2) s r 4 (h.dlc - 2) (omega (arith, l.most)) (omega (arith, l.most)) (λ i a b. omega (arith, l.least)) e in
      message_long s h (same_header l.least) z
      ∙ ap (long_of (subject_of h) h.flag) p
      ∙ sym (message_long r h refl z)

  pub same_read : read_of s ≡ read_of r
  unfolding read_of
  same_read =
      split (eqb (first_of (read_checks r)) 0)
      (λ c. simp (same_checks, c)
      (ap Ok (split (eqb (header_of r).dlc 0)
      (λ z. same_short (eqb-true _ 0 z))
      (λ z. same_long (eqb-true _ 0 c) (eqb-false _ 0 z)))))
      (λ c. simp (same_checks, c))

-- a record and the same with its unused bytes cleared
module _ (r : List ℕ) (n : length r ≡ frame_size) where
  pub cleared_ten : length (cleared_of r) ≡ frame_size
  unfolding cleared_of
  cleared_ten = length_padded frame_size (take ((header_of r).dlc + 2) r) (simp length-take (omega arith))

  pub cleared_agrees : Agree (λ i. i < (header_of r).dlc + 2) (cleared_of r) r
  unfolding cleared_of
  cleared_agrees i h =
      let up = take ((header_of r).dlc + 2) r in
      get_d_past up (frame_size - length up) i ∙ get_or-take ((header_of r).dlc + 2) r i 0 h
