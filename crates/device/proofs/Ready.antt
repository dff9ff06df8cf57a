-- Every plan that the checks let through can be carried out.
use Prim.Native.Nat.{ℕ}
use mathlib.Core.Path.{◌≡◌, refl, sym, subst, ◌∙◌}
use mathlib.Core.Bool.{false}
use mathlib.Mathlib.Data.Bool.Basic.{or-eq-false-eq-eq-false-and-eq-false as neither}
use mathlib.Core.List.{List}
use native.Mathlib.Omega.{arith}
use borrow.Author.Tests.{eqb-false}
use Rattle.laws.specs.Checks.{first_of, holds_at}
use Rattle.laws.proofs.Checks.{none_holds}
use Rattle.octets.proofs.Datas.{tidy_most, bytes_length}
use Rattle.codec.specs.declared.Header.{Header}
use Rattle.codec.specs.Fields.{header_of}
use Rattle.codec.specs.Reading.{unserved}
use Rattle.codec.proofs.Headers.{ranged, long_served}
use Rattle.guest.specs.declared.Plan.{Plan}
use Rattle.guest.specs.declared.Plan.TheVariants.{Read, Write, Join}
use Rattle.guest.specs.Checks.{Setting, misfit, in_short}
use Rattle.guest.specs.Step.{asks, judged_of}
use Rattle.guest.proofs.Plans.{accepted, Sound, SoundJudged, sound}
use Rattle.judge.specs.Code.{quiet_checks}
use Rattle.answers.specs.Code.{Answerable}
use Rattle.writes.specs.Code.{KeepReady}
use Rattle.device.specs.Code.{Ready}

-- a frame in long form that gets an answer frame has passed checks 1 and 5
answerable : (s : Setting) (r : List ℕ) → misfit s r ≡ false → in_short (header_of r) ≡ false → unserved (header_of r) ≡ false
    → Answerable s.own (header_of r) s.out_len
answerable s r m l n =
    let f = accepted s r m in
    record {
      address = f.own;
      named = (long_served (header_of r) (eqb-false (header_of r).dlc 0 l) n).1;
      service = (ranged r).service;
      object = (ranged r).object;
      room = f.out;
    }

sound_ready : (s : Setting) (h : Header) (p : Plan) → Answerable s.own h s.out_len → Sound s h p → Ready p s.own h s.store_len s.work_len s.out_len
sound_ready s h (Read a) w z = (w, z.place.fits.short)
sound_ready s h (Write a b) w z = (
  w,
  record {
    inside = z.its.place.inside;
    whole = sym (bytes_length b z.tidied) ∙ z.whole;
    bytes = tidy_most 6 b z.tidied;
  },
)
sound_ready s h (Join a number total b) w z =
    let keep : KeepReady a number total b s.work_len = record {
      area = z.its.area;
      object = z.its.place.fits.object;
      whole = z.total_len;
      bytes = omega (arith, tidy_most 4 b z.tidied);
      fits = z.fits;
    } in
    (w, (keep, z.its.place.inside))

-- checks 1 to 6 let a frame in long form pass to its plan, or to its error frame
module _ (s : Setting) (r : List ℕ) (l : in_short (header_of r) ≡ false) (e : first_of (quiet_checks s r) ≡ 0) where
  pub passed_answerable : Answerable s.own (header_of r) s.out_len
  unfolding holds_at
  passed_answerable =
      let none = (none_holds (quiet_checks s r) refl).0 e in
      answerable s r (none 1) l ((neither (unserved (header_of r)) _).0 (none 5)).0

  pub ready : (p : Plan) → judged_of s r ≡ asks p → Ready p s.own (header_of r) s.store_len s.work_len s.out_len
  ready p j = sound_ready s (header_of r) p passed_answerable (subst (SoundJudged s (header_of r)) j (sound s r))
