-- What the second byte of a key adds to what the first one does, where a whole record has room, and the last fragment stored.
use Prim.Native.Nat.{ℕ, ◌+◌, ◌*◌, ◌<◌, ◌≤◌}
use mathlib.Core.Path.{◌≡◌, refl, sym, ap, ◌∙◌}
use mathlib.Core.Bool.{true, cond, ◌&&◌}
use mathlib.Core.List.{List, [], ◌∷◌}
use native.Mathlib.Omega.{arith}
use lib.ListN.{length, drop}
use lib.Dec.{leb, ltb}
use borrow.Author.Tests.{ltb-true, leb-true, lt-ltb, le-leb}
use Rattle.laws.specs.Bytes.{byte_at}
use Rattle.laws.specs.Put.{put}
use Rattle.laws.proofs.Put.{put_nothing}
use Rattle.laws.proofs.Tests.{halves}
use Rattle.join.specs.Work.{record_size, data_size, second_key, Joiner, collecting, Piece, kept, done, dropped, with_data, head_of, area_after}
use Rattle.join.specs.Code.{record_fits}

-- ---- where a record has room

pub record Room (work at w number body : ℕ) : Type 0 where
  pub byte : number < 255
  pub inside : at + record_size ≤ work
  pub body_fits : w * number + body ≤ data_size

pub room_in : (work at w number body : ℕ) → record_fits work at w number body ≡ true → Room work at w number body
unfolding record_fits
room_in work at w number body e =
    let a = halves (ltb number 255 && leb (at + record_size) work) e in
    let b = halves (ltb number 255) a.0 in
    record { byte = ltb-true number 255 b.0; inside = leb-true (at + record_size) work b.1; body_fits = leb-true (w * number + body) data_size a.1 }

pub in_room : (work at w number body : ℕ) → Room work at w number body → record_fits work at w number body ≡ true
unfolding record_fits
in_room work at w number body r =
    simp (lt-ltb number 255 r.byte, le-leb (at + record_size) work r.inside, le-leb (w * number + body) data_size r.body_fits)

-- ---- what is kept

-- a fragment's data and what stands before a record's data put: all that is put of a fragment whose key has one byte
one_byte : (k : List ℕ) → length k ≡ 1 → drop 1 k ≡ []
one_byte [] e = absurd (omega arith)
one_byte (x ∷ []) e = refl
one_byte (x ∷ y ∷ k) e = absurd (omega arith)

pub one_kept : (j : Joiner) (at : ℕ) (p : Piece) (l m : List ℕ) → length p.key ≡ 1 → m ≡ put (with_data j at p l) at (head_of p)
    → m ≡ area_after j at p kept l
unfolding area_after
one_kept j at p l m o e = rw (one_byte p.key o) (e ∙ sym (put_nothing (put (with_data j at p l) at (head_of p)) _))

-- and then the second byte of a key that has two
two_bytes : (k : List ℕ) → length k ≡ 2 → drop 1 k ≡ byte_at k 1 ∷ []
two_bytes [] e = absurd (omega arith)
two_bytes (x ∷ []) e = absurd (omega arith)
two_bytes (x ∷ y ∷ []) e = refl
two_bytes (x ∷ y ∷ z ∷ k) e = absurd (omega arith)

pub two_kept : (j : Joiner) (at : ℕ) (p : Piece) (l m k : List ℕ) → length p.key ≡ 2 → m ≡ put (with_data j at p l) at (head_of p)
    → k ≡ put m (at + second_key) (byte_at p.key 1 ∷ []) → k ≡ area_after j at p kept l
unfolding area_after
two_kept j at p l m k o e f = rw (two_bytes p.key o) (f ∙ ap (λ (x : List ℕ). put x (at + second_key) (byte_at p.key 1 ∷ [])) e)

-- ---- the last fragment

-- its data put at their place, and then the record dropped
pub last_put : (w at : ℕ) (p : Piece) (l m k : List ℕ) → at < length m → m ≡ with_data (collecting w) at p l
    → k ≡ cond (ltb at (length m)) (dropped at m) m → k ≡ area_after (collecting w) at p (done []) l
unfolding area_after
last_put w at p l m k h e f = f ∙ simp (lt-ltb at (length m) h) (ap (dropped at) e)
