-- Short facts of the definitions: easy errors of 01 that they shut out, why there is no check 13, and what the codes of error frames stand for.
use Prim.Native.Nat.{ℕ, ◌≤◌}
use mathlib.Core.Path.{◌≡◌, refl}
use mathlib.Core.Bool.{false}
use mathlib.Core.List.{List, [], ◌∷◌, map}
use native.Mathlib.Omega.{arith}
use lib.Dec.{eqb}
use Rattle.laws.specs.Mixing.{those}
use Rattle.octets.specs.declared.Data.{Data}
use Rattle.octets.specs.Data.{data_of}
use Rattle.codec.specs.declared.Header.{Header}
use Rattle.codec.specs.declared.Subject.{Subject}
use Rattle.codec.specs.declared.Message.TheVariants.{Plain, Fragment}
use Rattle.codec.specs.Names.{erroneous}
use Rattle.codec.specs.Writing.{image_of}
use Rattle.table.specs.declared.Attribute.{Attribute}
use Rattle.join.specs.Work.{Piece}
use Rattle.join.proofs.Joins.{shaped_by_in_words, number_most}
use Rattle.guest.specs.declared.Plan.TheVariants.{Join}
use Rattle.guest.specs.Checks.{fragment_bytes, wrong_piece, piece_of}
use Rattle.guest.specs.Errors.{Entry, error_codes, code_of}
use Rattle.guest.specs.Step.{asks, keep, Areas, perform, answering, error_frame}
use Rattle.guest.specs.History.{with_piece}
use borrow.Author.Tests.{eq-eqb, not-false}

-- "Writing the store fragment by fragment, so that a Read shows half a name": a fragment that is kept leaves the store
pub kept_is_hidden : (a : Attribute) (p : Piece) (x : Areas) → (perform (keep a p) x).store ≡ x.store
unfolding perform
kept_is_hidden a p x = refl

-- every fragment that passes checks 1 to 12 counts in its object's history, also one that is then answered 14
pub every_piece_counts : (a : Attribute) (number total : ℕ) (b : Data) (h : List Piece)
    → with_piece a.object (asks (Join a number total b)) h ≡ piece_of a.id number total b ∷ h
every_piece_counts a number total b h = rw (eq-eqb a.object a.object refl)

-- "A total is at most 255, so a number that passes check 12 is at most 63" (02, 2026-05)
pub twelve_bounds_the_number : (u : Subject) (number total : ℕ) (b : Data) → total ≤ 255 → wrong_piece (Fragment u number total b) ≡ false → number ≤ 63
twelve_bounds_the_number u number total b t e =
    number_most fragment_bytes 63 total number b.len (omega arith) t ((shaped_by_in_words fragment_bytes total number b.len).0 (not-false _ e))

-- an error frame has its flag clear, whatever the request's, and one byte of data, from the table of codes
pub error_is_plain : (own : ℕ) (h : Header) (number : ℕ) → error_frame own h number ≡ image_of (Plain (answering own h erroneous) (data_of (code_of number ∷ [])))
unfolding error_frame
error_is_plain own h number = refl

-- the table of codes from its other side, as a fitter reads it (docs/ERRORS.md): the refusals that share a code
pub shared_codes :
    map (λ (code : ℕ). map (λ (e : Entry). e.0) (those (λ e. eqb code e.1) error_codes)) (1 ∷ 2 ∷ 9 ∷ 14 ∷ [])
    ≡ (7 ∷ 9 ∷ []) ∷ (10 ∷ []) ∷ (8 ∷ 11 ∷ 12 ∷ []) ∷ (14 ∷ []) ∷ []
shared_codes = refl
