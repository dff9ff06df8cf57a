-- The ranges of what a readable frame carries, in words.
use Prim.Native.Nat.{ℕ, ◌≤◌}
use mathlib.Core.Path.{◌≡◌}
use mathlib.Core.Bool.{true}
use mathlib.Core.Logic.{◌↔◌}
use borrow.Author.Tests.{leb-true, le-leb}
use Rattle.laws.proofs.Tests.{halves}
use Rattle.codec.specs.declared.Subject.{Subject}
use Rattle.codec.specs.Writing.{subject_fits, short_fits}

pub record SubjectFits (u : Subject) : Type 0 where
  pub dir : u.dir ≤ 1
  pub address : u.address ≤ 125
  pub named : 4 ≤ u.service
  pub service : u.service ≤ 7
  pub response : u.response ≤ 3
  pub object : u.object ≤ 31

pub record ShortFits (d a s : ℕ) : Type 0 where
  pub dir : d ≤ 1
  pub address : a ≤ 125
  pub service : s ≤ 7

pub subject_fits_lem : (u : Subject) → (subject_fits u ≡ true) ↔ SubjectFits u
unfolding subject_fits
subject_fits_lem u = (ranges, λ f. simp (le-leb _ _ f.dir, le-leb _ _ f.address, le-leb _ _ f.named, le-leb _ _ f.service, le-leb _ _ f.response, le-leb _ _ f.object))
  where
    ranges : subject_fits u ≡ true → SubjectFits u
    ranges e =
        let a = halves _ e in
        let b = halves _ a.0 in
        let c = halves _ b.0 in
        let d = halves _ c.0 in
        let e = halves _ d.0 in
        record {
          dir = leb-true _ _ e.0;
          address = leb-true _ _ e.1;
          named = leb-true _ _ d.1;
          service = leb-true _ _ c.1;
          response = leb-true _ _ b.1;
          object = leb-true _ _ a.1;
        }

pub short_fits_lem : (d a s : ℕ) → (short_fits d a s ≡ true) ↔ ShortFits d a s
unfolding short_fits
short_fits_lem d a s = (ranges, λ f. simp (le-leb _ _ f.dir, le-leb _ _ f.address, le-leb _ _ f.service))
  where
    ranges : short_fits d a s ≡ true → ShortFits d a s
    ranges e =
        let p = halves _ e in
        let q = halves _ p.0 in
        record { dir = leb-true _ _ q.0; address = leb-true _ _ q.1; service = leb-true _ _ p.1 }
