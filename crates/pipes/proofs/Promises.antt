-- WHAT THE CRATE PROMISES of its buffers and its complaints, for every input.
use Prim.Native.Nat.{ℕ, ◌+◌, ◌-◌, ◌*◌, ◌^◌, ◌<◌, ◌≤◌}
use mathlib.Core.Path.{◌≡◌, refl, sym, ◌∙◌}
use mathlib.Core.Logic.{∥∥₁_elim, ∥∥₁_prop}
use mathlib.Core.List.Memᴰ
use mathlib.Core.List.{List, [], ◌++◌, Memᴰ}
use contract.Lifetimes.{Lfts}
use prog.Memory.{up}
use Rattle.std.specs.Borrow.{RattleType}
use native.Mathlib.Omega.{arith}
use lib.ListN.{length, take}
use lib.Seq.{take_all}
use Rattle.laws.proofs.Put.{take_put}
use Rattle.pipes.specs.Buffers.{appended, appended_count}
use Rattle.pipes.proofs.buffer.Buffer.new.Reads as new
use Rattle.pipes.proofs.buffer.Buffer.held.Reads as held
use Rattle.pipes.proofs.buffer.Buffer.append.Reads as buffer-append
use Rattle.pipes.proofs.buffer.front.Reads as front
use Rattle.pipes.proofs.buffer.append.Reads as append
use Rattle.pipes.proofs.running.Output.send.Reads as output-send
use Rattle.pipes.proofs.running.send.Reads as send
use Rattle.pipes.proofs.running.next.Reads as next
use Rattle.pipes.proofs.running.run.Reads as run
use Rattle.pipes.proofs.complaint.complaint_of.Reads as complaint-of
use Rattle.pipes.proofs.complaint.tell.Reads as tell
use Rattle.pipes.proofs.complaint.tell_displayed.Reads as tell-displayed

-- bytes for which there is room stand behind those that were held
pub appended_front : (p : List ℕ) (u : ℕ) (b : List ℕ) → u + length p ≤ length b
    → (appended_count p u b ≡ u + length p) × (take (u + length p) (appended p u b) ≡ take u b ++ p)
unfolding appended_count appended
appended_front p u b h =
    let all : take (length b - u) p ≡ p = take_all (length b - u) p (omega arith) in
    (omega arith, rw all (take_put b u p (u + length p) (omega arith) refl))

-- ---- determination: two outcomes that meet a function's contract are equal

module _ (n : _) (fits : _) (κs : _) (args : _) (r r' : _) (s s' : _) where
  pub new_determined : new.Post n fits κs args r s → new.Post n fits κs args r' s' → (r.used ≡ r'.used) × (r.bytes ≡ r'.bytes)
  new_determined p q = (p.0 ∙ sym q.0, p.1 ∙ sym q.1)

module _ (n : _) (fits : _) (κs : _) (args : _) (r r' : _) (s s' : _) where
  pub held_determined : held.Post n fits κs args r s → held.Post n fits κs args r' s' → r.now ≡ r'.now
  held_determined p q = p ∙ sym q

module _ (n : _) (fits : _) (κs : _) (args : _) (r r' : _) (s s' : _) where
  pub buffer_append_determined : buffer-append.Post n fits κs args r s → buffer-append.Post n fits κs args r' s'
      → (s.0.now.used ≡ s'.0.now.used) × (s.0.now.bytes ≡ s'.0.now.bytes)
  buffer_append_determined p q = (p.0 ∙ sym q.0, p.1 ∙ sym q.1)

pub front_determined : (κs : _) (args : _) (r r' : _) (s s' : _) → front.Post κs args r s → front.Post κs args r' s' → r.now ≡ r'.now
front_determined κs args r r' s s' p q = p ∙ sym q

pub append_determined : (κs : _) (args : _) (r r' : _) (s s' : _) → append.Post κs args r s → append.Post κs args r' s'
    → (r ≡ r') × (s.1.1.0.now ≡ s'.1.1.0.now)
append_determined κs args r r' s s' p q = (p.0 ∙ sym q.0, p.1 ∙ sym q.1)

pub send_determined : (κs : _) (args : _) (r r' : _) (s s' : _) → send.Post κs args r s → send.Post κs args r' s'
    → (r ≡ r') × (s.1.1.1.0.now ≡ s'.1.1.1.0.now)
send_determined κs args r r' s s' p q = (p.0 ∙ sym q.0, p.1 ∙ sym q.1)

pub output_send_determined : (κs : _) (args : _) (r r' : _) (s s' : _) → output-send.Post κs args r s → output-send.Post κs args r' s'
    → (s.0.now.waiting.used ≡ s'.0.now.waiting.used) × (s.0.now.waiting.bytes ≡ s'.0.now.waiting.bytes) × (s.0.now.to ≡ s'.0.now.to)
output_send_determined κs args r r' s s' p q = (p.0 ∙ sym q.0, p.1 ∙ sym q.1, p.2 ∙ sym q.2)

pub next_determined : (κs : _) (args : _) (r r' : _) (s s' : _) → next.Post κs args r s → next.Post κs args r' s' → r ≡ r'
next_determined κs args r r' s s' p q = p ∙ sym q

pub complaint_determined : (κs : _) (args : _) (r r' : _) (s s' : _) → complaint-of.Post κs args r s → complaint-of.Post κs args r' s' → r ≡ r'
complaint_determined κs args r r' s s' p q = p ∙ sym q

-- these give nothing back, and are lent nothing that they may alter
pub tell_determined : (κs : _) (args : _) (r r' : _) (s s' : _) → tell.Post κs args r s → tell.Post κs args r' s' → r ≡ r'
tell_determined κs args r r' s s' p q = refl

module _ (a b c d : _) (κs : _) (args : _) (r r' : _) (s s' : _) where
  pub tell_displayed_determined : tell-displayed.Post a b c d κs args r s → tell-displayed.Post a b c d κs args r' s' → r ≡ r'
  tell_displayed_determined p q = refl

module _ (a b c d e : _) (κs : _) (args : _) (r r' : _) (s s' : _) where
  pub run_determined : run.Post a b c d e κs args r s → run.Post a b c d e κs args r' s' → r ≡ r'
  run_determined p q = refl

-- ---- nothing is asked of a caller

-- (of a buffer the language asks, as of each type, that its size is below 2 ^ 63: here exactly that its length is 16 less at most)
no_lifetimes : (κ : List ℕ) (x : ℕ) → ∥ Memᴰ x [] ∥₁ → ∥ Memᴰ x κ ∥₁
no_lifetimes κ x m = ∥∥₁_elim m ∥∥₁_prop (λ d. absurd (Memᴰ.not-nil d))

in_memory : (n : ℕ) → n + 16 ≤ 2 ^ 63 → up 8 (up 8 (0 + n * 1) + 8) < 2 ^ 63
in_memory n h = omega arith

pub new_asks_nothing : (n : _) (fits : _) (κs : _) (args : _) → n + 16 ≤ 2 ^ 63 → new.Asked n fits κs args
new_asks_nothing n fits κs args h = (no_lifetimes _, in_memory n h)

pub held_asks_nothing : (n : _) (fits : _) (κs : _) (args : _) → n + 16 ≤ 2 ^ 63 → held.Asked n fits κs args
held_asks_nothing n fits κs args h = (no_lifetimes _, in_memory n h)

pub buffer_append_asks_nothing : (n : _) (fits : _) (κs : _) (args : _) → n + 16 ≤ 2 ^ 63 → buffer-append.Asked n fits κs args
buffer_append_asks_nothing n fits κs args h = (no_lifetimes _, in_memory n h)

pub front_asks_nothing : (κs : _) (args : _) → front.Asked κs args
front_asks_nothing κs args = tt

pub append_asks_nothing : (κs : _) (args : _) → append.Asked κs args
append_asks_nothing κs args = tt

pub send_asks_nothing : (κs : _) (args : _) → send.Asked κs args
send_asks_nothing κs args = tt

pub output_send_asks_nothing : (κs : _) (args : _) → output-send.Asked κs args
output_send_asks_nothing κs args = tt

pub next_asks_nothing : (κs : _) (args : _) → next.Asked κs args
next_asks_nothing κs args = tt

pub complaint_asks_nothing : (κs : _) (args : _) → complaint-of.Asked κs args
complaint_asks_nothing κs args = tt

pub tell_asks_nothing : (κs : _) (args : _) → tell.Asked κs args
tell_asks_nothing κs args = tt

-- of a type that a caller brings each call asks that its lifetimes last as long, which the language sees to, and here no more
pub tell_displayed_asks_nothing : (a : RattleType) (b c d : _) (κs : Lfts 3) (args : _) → ((x : ℕ) → ∥ Memᴰ x a.lives ∥₁ → ∥ Memᴰ x κs.1.1.0 ∥₁)
    → tell-displayed.Asked a b c d κs args
tell_displayed_asks_nothing a b c d κs args h = h

pub run_asks_nothing : (a : RattleType) (b c d e : _) (κs : Lfts 1) (args : _) → ((x : ℕ) → ∥ Memᴰ x a.lives ∥₁ → ∥ Memᴰ x κs.0 ∥₁) → run.Asked a b c d e κs args
run_asks_nothing a b c d e κs args h = h
