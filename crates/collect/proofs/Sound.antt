-- What refusals 1 to 5 leave: the guest of a frame that is somebody's has a record, where a fragment fits; a whole answer's data stand in its frame.
use Prim.Native.Nat.{ℕ, ◌+◌, ◌-◌, ◌≤◌, ◌<◌}
use mathlib.Core.Path.{◌≡◌, refl, sym, ap, subst, ◌∙◌}
use mathlib.Core.Option.{some}
use mathlib.Core.List.{List}
use native.Mathlib.Omega.{arith}
use lib.ListN.{length, get_or, replicate, length-replicate, get_or-replicate}
use lib.Dec.{eqb}
use borrow.Author.Tests.{eqb-true, eqb-false, le-leb}
use Rattle.laws.specs.Checks.{first_of}
use Rattle.laws.proofs.Tests.{split}
use Rattle.octets.specs.declared.Data.{Data}
use Rattle.codec.specs.declared.Subject.{Subject}
use Rattle.codec.specs.declared.Message.{Message}
use Rattle.codec.specs.declared.Message.TheVariants.{Short, Plain, Fragment}
use Rattle.std.specs.Prelude.{Ok}
use Rattle.codec.specs.Names.{payload_place, most_address}
use Rattle.octets.specs.Data.{bytes_of}
use Rattle.codec.specs.Fields.{header_of}
use Rattle.codec.specs.Reading.{read_checks, subject_of, payload_of, short_of, message_of, read_of}
use Rattle.codec.specs.Code.{payload_data}
use Rattle.codec.proofs.Headers.{ten_of, payload_read}
use Rattle.codec.proofs.Long.{got, message_short, message_fragment, payload_plain}
use Rattle.codec.proofs.Trips.{read_message}
use Rattle.join.specs.Work.{record_size, base, load}
use Rattle.join.specs.History.{Fit}
use Rattle.collect.specs.Checks.{collect_size, guest_count, answers_read, wrong_piece, joiner}
use Rattle.collect.specs.Step.{Judged, nobodys, spoilt, whole, piece, owner, judged_of, cut}
use Rattle.collect.specs.Code.{whole_judged, fragment_judged, message_judged}
use Rattle.collect.specs.Belongs.{Good, owner_of}
use Rattle.collect.proofs.Groups.{malformed_judged, as_read, message_judged_lem, plain_below, fragment_below}
use Rattle.collect.proofs.Taking.{fits}

-- the data of a plain message that the codec reads: where they stand in its record
module _ (r : List ℕ) (u : Subject) (b : Data) (e : read_of r ≡ Ok (Plain u b)) where
  its_message : message_of r ≡ Plain u b
  its_message = read_message r (Plain u b) e

  in_long_form : (header_of r).dlc ≡ 0 → ⊥
  in_long_form z =
      let q : short_of (header_of r) ≡ Plain u b = sym (message_short r z) ∙ its_message in
      let n : ◌≡◌ {A = ℕ} 0 1 = cc in
      omega arith

  unflagged : (header_of r).flag ≡ 1 → ⊥
  unflagged f =
      let q = sym (message_fragment r in_long_form f) ∙ its_message in
      let n : ◌≡◌ {A = ℕ} 0 1 = cc in
      omega arith

  read_whole : first_of (read_checks r) ≡ 0
  read_whole = eqb-true (first_of (read_checks r)) 0 (as_read r (Plain u b) e)

  its_body : b ≡ payload_data r
  its_body = let q : Plain u b ≡ Plain (subject_of (header_of r)) (payload_data r) = sym its_message ∙ payload_plain r read_whole in_long_form unflagged in cc

  pub plain_bytes : bytes_of b ≡ payload_of r
  plain_bytes = rw its_body (payload_read r read_whole in_long_form).bytes

  pub plain_part : cut payload_place b.len r ≡ payload_of r
  plain_part =
      let p = payload_read r read_whole in_long_form in
      let n : b.len ≡ (header_of r).dlc - 2 = ap (λ (d : Data). d.len) its_body ∙ p.len in
      let fit : payload_place + ((header_of r).dlc - 2) ≤ length r = omega (arith, (ten_of r read_whole).0, p.long.most) in
      rw n (simp (le-leb (payload_place + ((header_of r).dlc - 2)) (length r) fit))

module _ (r : List ℕ) where
  abbrev pub Sound : Judged → Type 0
  Sound (nobodys n) = Unit {0}
  Sound (spoilt guest n) = guest ≤ most_address
  Sound (whole u n) = (u.address ≤ most_address) × (cut payload_place n r ≡ payload_of r)
  Sound (piece u p) = (u.address ≤ most_address) × Fit joiner p

whole_sound : (r : List ℕ) (u : Subject) (n : ℕ) → u.address ≤ most_address → cut payload_place n r ≡ payload_of r → Sound r (whole_judged u n)
unfolding whole_judged
whole_sound r u n h c = split (eqb n 0) (λ z. simp z h) (λ z. simp z (h, c))

fragment_sound : (r : List ℕ) (u : Subject) (number total : ℕ) (b : Data) → u.address ≤ most_address → Sound r (fragment_judged u number total b)
unfolding fragment_judged
fragment_sound r u number total b h =
    split (eqb total 0)
    (λ z. simp z h)
    (λ z. split (wrong_piece total number b.len) (λ w. simp (z, w) h) (λ w. simp (z, w) (h, fits u number total b w)))

message_sound : (r : List ℕ) (m : Message) → read_of r ≡ Ok m → Sound r (message_judged m)
unfolding message_judged
message_sound r (Short dir address service) e = tt
message_sound r (Plain u b) e =
    split (answers_read u) (λ t. simp t (whole_sound r u b.len (plain_below r u b e) (plain_part r u b e))) (λ t. simp t tt)
message_sound r (Fragment u number total b) e =
    split (answers_read u) (λ t. simp t (fragment_sound r u number total b (fragment_below r u number total b e))) (λ t. simp t tt)

pub sound : (r : List ℕ) → Sound r (judged_of collect_size r)
sound r =
    split (eqb (first_of (read_checks r)) 0)
    (λ t.
    let ten = ten_of r (eqb-true (first_of (read_checks r)) 0 t) in
    let says = got r ten.0 ten.1 in
    subst (Sound r) (sym (message_judged_lem collect_size r (message_of r) refl says)) (message_sound r (message_of r) says))
    (λ t. subst (Sound r) (sym (malformed_judged collect_size r refl (eqb-false (first_of (read_checks r)) 0 t))) tt)

-- a guest's record is inside a work area of its size
pub room : (guest : ℕ) (work : List ℕ) → guest ≤ most_address → Good work → base guest + record_size ≤ length work
room guest work h g = rw g (omega arith)

-- the owner of a frame is a guest
below_of : (r : List ℕ) (j : Judged) → Sound r j → (o : ℕ) → owner j ≡ some o → o < guest_count
below_of r (nobodys n) z o m = let q : ◌≡◌ {A = ℕ} 0 1 = cc in absurd (omega arith)
below_of r (spoilt guest n) z o m = let q : guest ≡ o = cc in omega arith
below_of r (whole u n) z o m = let q : u.address ≡ o = cc in omega (arith, z.0)
below_of r (piece u p) z o m = let q : u.address ≡ o = cc in omega (arith, z.0)

pub owner_below : (r : List ℕ) (o : ℕ) → owner_of r ≡ some o → o < guest_count
owner_below r o m = below_of r (judged_of collect_size r) (sound r) o m

-- a cleared work area: it has its size, and no guest's record is filling
module _ (x : List ℕ) (start : x ≡ replicate collect_size 0) where
  pub cleared_size : Good x
  cleared_size = ap length start ∙ length-replicate {A = ℕ} collect_size 0

  pub cleared_status : (o : ℕ) → o ≤ most_address → (load joiner (base o) x).status ≡ 0
  unfolding load
  cleared_status o l = ap (λ (w : List ℕ). get_or w (base o) 0) start ∙ get_or-replicate {A = ℕ} collect_size (base o) 0 0 (omega arith)
