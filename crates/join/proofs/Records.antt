-- The work record in its area: what a fragment writes there, who sees it, and that the record read back is the record stepped.
use Prim.Native.Nat.{ℕ, ◌+◌, ◌*◌, ◌<◌, ◌≤◌}
use mathlib.Core.Path.{◌≡◌, refl, sym, ap, ◌∙◌}
use mathlib.Core.Logic.{◌≢◌}
use mathlib.Core.Bool.{true, cond}
use mathlib.Core.List.{List, [], ◌∷◌, ◌++◌}
use native.Mathlib.Omega.{arith}
use lib.ListN.{length, take, drop, length-append, length-take, length-drop}
use lib.Seq.{get_or-drop, take-take, take-length}
use borrow.Author.Tests.{leb-true}
use Rattle.laws.specs.Bytes.{byte_at}
use Rattle.laws.specs.Put.{put, Agree}
use Rattle.laws.proofs.Put.{length_put, put_within, put_before, put_behind, untouched, put_both, same_part, part_put, take_put, one_put, one_beside}
use Rattle.laws.proofs.Tests.{split}
use Rattle.join.specs.Work.{record_size, head_size, data_size, second_key, Joiner, Piece, Work, Joined, kept, done, lost, load, astray, last, joined, with_data, head_of, dropped, area_after}
use Rattle.join.specs.History.{Fit}

-- ---- the record's own steps

-- the record with its status set to 0
abbrev pub idled : Work → Work
idled r = record { status = 0; key = r.key; total = r.total; next = r.next; held = r.held }

-- the record with other bytes held
abbrev pub holding : List ℕ → Work → Work
holding d r = record { status = r.status; key = r.key; total = r.total; next = r.next; held = d }

-- the bytes held, with a fragment's data at their place
abbrev pub held_with : Joiner → Piece → Work → List ℕ
held_with j p r = put r.held (j.width * p.number) p.bytes

-- the record that holds these bytes and waits for what follows a fragment
abbrev pub waiting : Piece → List ℕ → Work
waiting p d = record { status = 1; key = p.key; total = p.total; next = p.number + 1; held = d }

-- the record after a last fragment, whose data it holds where those are stored too
abbrev pub ended : Joiner → Piece → Work → Work
ended j p r = idled (cond j.stores_last (holding (held_with j p r) r) r)

-- the work record after a fragment, as a step of the record itself
abbrev pub stepped : Joiner → Piece → Work → Work
stepped j p r = cond (astray j r p) (idled r) (cond (last j p) (ended j p r) (waiting p (held_with j p r)))

-- ---- one record in its area

-- a fragment's data end inside the record's
pub data_room : (j : Joiner) (p : Piece) → Fit j p → j.width * p.number + length p.bytes ≤ data_size
data_room j p f = omega (arith, f.shaped.inside, f.shaped.fit, f.room)

-- the places of the bytes held: behind the head and before byte 259
abbrev AmongHeld : ℕ → ℕ → Type 0
AmongHeld base i = (base + head_size ≤ i) × (i < base + second_key)

module _ (j : Joiner) (base : ℕ) where
  -- the record is read off its own bytes
  pub load_same : (P : ℕ → Type 0) → ((i : ℕ) → base ≤ i → i < base + record_size → P i)
      → (l m : List ℕ) → base + record_size ≤ length l → base + record_size ≤ length m → Agree P l m → load j base l ≡ load j base m
  unfolding load
  load_same P its l m h k e =
      let byte : (n : ℕ) → n < record_size → byte_at l (base + n) ≡ byte_at m (base + n) = λ n b. e (base + n) (its (base + n) (omega arith) (omega arith)) in
      λ i. record {
        status = e base (its base (omega arith) (omega arith)) i;
        key = take j.keyed (byte 1 (omega arith) i ∷ byte second_key (omega arith) i ∷ []);
        total = byte 2 (omega arith) i;
        next = byte 3 (omega arith) i;
        held = same_part P l m (base + head_size) data_size (omega arith) (omega arith) (λ n a b. its n (omega arith) (omega arith)) e i;
      }

  module _ (l : List ℕ) (h : base + record_size ≤ length l) where
    -- it holds as many bytes as it has places for
    pub held_size : length (load j base l).held ≡ data_size
    unfolding load
    held_size = simp (length-take, length-drop) (omega arith)

    -- and they are the same in another area that is the same there
    held_same : (m : List ℕ) → length m ≡ length l → Agree (AmongHeld base) m l → take data_size (drop (base + head_size) m) ≡ take data_size (drop (base + head_size) l)
    held_same m n e = same_part (AmongHeld base) m l (base + head_size) data_size (omega arith) (omega arith) (λ i a b. (a, omega arith)) e

    -- a byte of what is put where the record begins
    begun : (bs : List ℕ) (k i : ℕ) → length bs ≤ head_size → k < length bs → i ≡ base + k → byte_at (put l base bs) i ≡ byte_at bs k
    begun bs k i n b e = put_within l base bs (omega arith) i (omega arith) (omega arith) ∙ ap (byte_at bs) (omega arith)

    load_idled : load j base (put l base (0 ∷ [])) ≡ idled (load j base l)
    unfolding load
    load_idled =
        let bs : List ℕ = 0 ∷ [] in
        let old : (n : ℕ) → 1 ≤ n → byte_at (put l base bs) (base + n) ≡ byte_at l (base + n) = λ n b. put_behind l base bs (omega arith) (base + n) (omega arith) in
        λ i. record {
          status = begun bs 0 base (omega arith) (omega arith) (omega arith) i;
          key = take j.keyed (old 1 (omega arith) i ∷ old second_key (omega arith) i ∷ []);
          total = old 2 (omega arith) i;
          next = old 3 (omega arith) i;
          held = held_same (put l base bs) (length_put l base bs (omega arith)) (untouched (AmongHeld base) l base bs (omega arith) (λ n a b p. omega arith)) i;
        }

-- a key is read off its places
key_read : (k : List ℕ) (a b : ℕ) → length k ≤ 2 → a ≡ byte_at k 0 → (2 ≤ length k → b ≡ byte_at k 1) → take (length k) (a ∷ b ∷ []) ≡ k
key_read [] a b h p q = refl
key_read (x ∷ []) a b h p q = λ i. p i ∷ []
key_read (x ∷ y ∷ []) a b h p q = λ i. p i ∷ q (omega arith) i ∷ []
key_read (x ∷ y ∷ z ∷ k) a b h p q = absurd (omega arith)

-- where a fragment's data stand, and the area with them and the head put; what else the key has is put last
abbrev place : Joiner → ℕ → Piece → ℕ
place j base p = base + head_size + j.width * p.number

abbrev marked : Joiner → ℕ → Piece → List ℕ → List ℕ
marked j base p l = put (with_data j base p l) base (head_of p)

abbrev more : Piece → List ℕ
more p = drop 1 p.key

module _ (j : Joiner) (base : ℕ) (p : Piece) (f : Fit j p) where
  -- the data end before byte 259, and of the key at most one byte stands there
  data_fit : place j base p + length p.bytes ≤ base + second_key
  data_fit = omega (arith, data_room j p f)

  few : length (more p) ≤ 1
  few = simp length-drop (omega (arith, f.keyed, f.at_most_two))

  module _ (l : List ℕ) (h : base + record_size ≤ length l) where
    data_length : length (with_data j base p l) ≡ length l
    data_length = length_put l (place j base p) p.bytes (omega (arith, data_fit))

    marked_length : length (marked j base p l) ≡ length l
    marked_length = length_put (with_data j base p l) base (head_of p) (omega (arith, data_length)) ∙ data_length

    -- the data put, the record holds them
    load_data : load j base (with_data j base p l) ≡ holding (held_with j p (load j base l)) (load j base l)
    unfolding load
    load_data =
        let fit : place j base p + length p.bytes ≤ length l = omega (arith, data_fit) in
        let old : (n : ℕ) → n < head_size → byte_at (with_data j base p l) (base + n) ≡ byte_at l (base + n) =
        λ n b. put_before l (place j base p) p.bytes fit (base + n) (omega arith) in
        λ i. record {
          status = put_before l (place j base p) p.bytes fit base (omega arith) i;
          key = take j.keyed (old 1 (omega arith) i ∷ put_behind l (place j base p) p.bytes fit (base + second_key) data_fit i ∷ []);
          total = old 2 (omega arith) i;
          next = old 3 (omega arith) i;
          held = part_put l (base + head_size) data_size (j.width * p.number) p.bytes (omega arith) (data_room j p f) i;
        }

    -- the head put and what else the key has, the record waits
    load_marked : (m : List ℕ) → length m ≡ length l → load j base (put (put m base (head_of p)) (base + second_key) (more p)) ≡ waiting p (load j base m).held
    unfolding load
    load_marked m n =
        let mark : List ℕ = put m base (head_of p) in
        let long : length mark ≡ length l = length_put m base (head_of p) (omega arith) ∙ n in
        let fit : base + second_key + length (more p) ≤ length mark = omega (arith, few) in
        let area : List ℕ = put mark (base + second_key) (more p) in
        let byte : (k i : ℕ) → k < head_size → i ≡ base + k → byte_at area i ≡ byte_at (head_of p) k =
        λ k i b e. put_before mark (base + second_key) (more p) fit i (omega arith) ∙ begun j base m (omega arith) (head_of p) k i (omega arith) b e in
        let second : 2 ≤ length p.key → byte_at area (base + second_key) ≡ byte_at p.key 1 =
        λ t. put_within mark (base + second_key) (more p) fit (base + second_key) (omega arith) (simp length-drop (omega arith))
        ∙ ap (byte_at (more p)) (omega arith) ∙ get_or-drop 1 p.key 0 0 in
        let key : take j.keyed (byte_at area (base + 1) ∷ byte_at area (base + second_key) ∷ []) ≡ p.key =
        rw (← f.keyed) (key_read p.key (byte_at area (base + 1)) (byte_at area (base + second_key)) (omega (arith, f.keyed, f.at_most_two)) (byte 1 (base + 1) (omega arith) refl) second) in
        λ i. record {
          status = byte 0 base (omega arith) (omega arith) i;
          key = key i;
          total = byte 2 (base + 2) (omega arith) refl i;
          next = byte 3 (base + 3) (omega arith) refl i;
          held = held_same j base m (omega arith) area (length_put mark (base + second_key) (more p) fit ∙ long ∙ sym n)
              (λ k q. untouched (AmongHeld base) mark (base + second_key) (more p) fit (λ v a b t. omega arith) k q ∙ untouched (AmongHeld base) m base (head_of p) (omega arith) (λ v a b t. omega arith) k q) i;
        }

    load_ended : load j base (area_after j base p (done []) l) ≡ ended j p (load j base l)
    unfolding area_after
    load_ended =
        split j.stores_last
        (λ t. simp t (load_idled j base (with_data j base p l) (omega (arith, data_length)) ∙ ap idled load_data))
        (λ t. simp t (load_idled j base l h))

    load_filled : load j base (area_after j base p kept l) ≡ waiting p (held_with j p (load j base l))
    unfolding area_after
    load_filled = load_marked (with_data j base p l) data_length ∙ ap (λ (r : Work). waiting p r.held) load_data

  -- the record in the area afterwards is the record stepped
  pub load_after : (l : List ℕ) → base + record_size ≤ length l → load j base (area_after j base p (joined j p (load j base l)) l) ≡ stepped j p (load j base l)
  unfolding joined area_after
  load_after l h =
      split (astray j (load j base l) p)
      (λ t. simp t (load_idled j base l h))
      (λ g. split (last j p) (λ t. simp (g, t) (load_ended l h)) (λ t. simp (g, t) (load_filled l h)))

  -- the area keeps its length
  pub area_length : (x : Joined) (l : List ℕ) → base + record_size ≤ length l → length (area_after j base p x l) ≡ length l
  unfolding area_after
  area_length kept l h =
      length_put (marked j base p l) (base + second_key) (more p) (omega (arith, few, marked_length l h)) ∙ marked_length l h
  area_length (done bs) l h =
      split j.stores_last
      (λ t. simp t (length_put (with_data j base p l) base (0 ∷ []) (omega (arith, data_length l h)) ∙ data_length l h))
      (λ t. simp t (length_put l base (0 ∷ []) (omega arith)))
  area_length lost l h = length_put l base (0 ∷ []) (omega arith)

  module _ (P : ℕ → Type 0) where
    module _ (l : List ℕ) (h : base + record_size ≤ length l) (out : (i : ℕ) → base ≤ i → i < base + record_size → P i → ⊥) where
      data_outside : Agree P (with_data j base p l) l
      data_outside = untouched P l (place j base p) p.bytes (omega (arith, data_fit)) (λ i a b. out i (omega arith) (omega (arith, data_fit)))

      head_outside : (m bs : List ℕ) → length bs ≤ head_size → length m ≡ length l → Agree P m l → Agree P (put m base bs) l
      head_outside m bs s n e i q = untouched P m base bs (omega arith) (λ k a b. out k a (omega arith)) i q ∙ e i q

    -- an owner of no byte of the record sees no change
    pub area_outside : (x : Joined) (l : List ℕ) → base + record_size ≤ length l → ((i : ℕ) → base ≤ i → i < base + record_size → P i → ⊥)
        → Agree P (area_after j base p x l) l
    unfolding area_after
    area_outside kept l h out = λ i q.
        untouched P (marked j base p l) (base + second_key) (more p) (omega (arith, few, marked_length l h))
        (λ k a b. out k (omega arith) (omega (arith, few))) i q
        ∙ head_outside l h out (with_data j base p l) (head_of p) (omega arith) (data_length l h) (data_outside l h out) i q
    area_outside (done bs) l h out =
        split j.stores_last
        (λ t. simp t (head_outside l h out (with_data j base p l) (0 ∷ []) (omega arith) (data_length l h) (data_outside l h out)))
        (λ t. simp t (head_outside l h out l (0 ∷ []) (omega arith) refl (λ i q. refl)))
    area_outside lost l h out = head_outside l h out l (0 ∷ []) (omega arith) refl (λ i q. refl)

    data_both : (l m : List ℕ) → base + record_size ≤ length l → base + record_size ≤ length m → Agree P l m
        → Agree P (with_data j base p l) (with_data j base p m)
    data_both l m h k e = put_both P l m (place j base p) p.bytes (omega (arith, data_fit)) (omega (arith, data_fit)) e

    -- areas that agree where P takes the index do so afterwards
    pub area_both : (x : Joined) (l m : List ℕ) → base + record_size ≤ length l → base + record_size ≤ length m → Agree P l m
        → Agree P (area_after j base p x l) (area_after j base p x m)
    unfolding area_after
    area_both kept l m h k e =
        put_both P (marked j base p l) (marked j base p m) (base + second_key) (more p) (omega (arith, few, marked_length l h)) (omega (arith, few, marked_length m k))
        (put_both P (with_data j base p l) (with_data j base p m) base (head_of p) (omega (arith, data_length l h)) (omega (arith, data_length m k))
        (data_both l m h k e))
    area_both (done bs) l m h k e =
        split j.stores_last
        (λ t. simp t
        (put_both P (with_data j base p l) (with_data j base p m) base (0 ∷ []) (omega (arith, data_length l h)) (omega (arith, data_length m k)) (data_both l m h k e)))
        (λ t. simp t (put_both P l m base (0 ∷ []) (omega arith) (omega arith) e))
    area_both lost l m h k e = put_both P l m base (0 ∷ []) (omega arith) (omega arith) e

-- ---- a record dropped

module _ (base : ℕ) (l : List ℕ) (h : base + record_size ≤ length l) where
  pub dropped_length : length (dropped base l) ≡ length l
  dropped_length = length_put l base (0 ∷ []) (omega arith)

  -- its status byte is 0, and every other byte stays
  pub dropped_status : byte_at (dropped base l) base ≡ 0
  dropped_status = one_put l base 0 (omega arith)

  pub dropped_others : (i : ℕ) → i ≢ base → byte_at (dropped base l) i ≡ byte_at l i
  dropped_others = one_beside l base 0 (omega arith)

  pub dropped_outside : (P : ℕ → Type 0) → ((i : ℕ) → base ≤ i → i < base + record_size → P i → ⊥) → Agree P (dropped base l) l
  dropped_outside P out = untouched P l base (0 ∷ []) (omega arith) (λ k a b. out k a (omega arith))

  pub dropped_both : (P : ℕ → Type 0) (m : List ℕ) → base + record_size ≤ length m → Agree P l m → Agree P (dropped base l) (dropped base m)
  dropped_both P m k e = put_both P l m base (0 ∷ []) (omega arith) (omega arith) e

-- what is handed over, if anything, is n bytes long
abbrev pub AsLong : ℕ → Joined → Type 0
AsLong n kept = Unit {0}
AsLong n (done bs) = length bs ≡ n
AsLong n lost = Unit {0}

-- what is handed over is as long as the total says
pub joined_length : (j : Joiner) (p : Piece) → Fit j p → (r : Work) → length r.held ≡ data_size → AsLong p.total (joined j p r)
unfolding joined
joined_length j p f r h =
    split (astray j r p)
    (λ t. simp t tt)
    (λ g. split (last j p)
    (λ t.
    let e = leb-true p.total (j.width * p.number + j.width) t in
    simp (g, t, length-append, length-take) (omega (arith, f.shaped.inside, f.shaped.fit, f.room)))
    (λ t. simp (g, t) tt))

-- where the last fragment's bytes are stored too, the joined bytes stand in the record, from its first data byte on
pub stored_last : (j : Joiner) → j.stores_last ≡ true → (base : ℕ) (p : Piece) → Fit j p → (l : List ℕ) → base + record_size ≤ length l
    → (bs : List ℕ) → joined j p (load j base l) ≡ done bs → take p.total (drop (base + head_size) (area_after j base p (done bs) l)) ≡ bs
unfolding joined area_after load
stored_last j s base p f l h bs e =
    split (astray j (load j base l) p)
    (λ t. let q : lost ≡ done bs = simp t at e in let n : ◌≡◌ {A = ℕ} 0 1 = cc in absurd (omega arith))
    (λ g. split (last j p)
    (λ t.
    let at = base + head_size in
    let k = j.width * p.number in
    let w : List ℕ = with_data j base p l in
    let room = data_room j p f in
    let end : k + length p.bytes ≡ p.total = omega (arith, leb-true p.total (k + j.width) t, f.shaped.inside, f.shaped.fit) in
    let long : length w ≡ length l = data_length j base p f l h in
    let part : List ℕ = take p.total (drop at l) in
    let whole : length part ≡ p.total = simp (length-take, length-drop) (omega (arith, f.room)) in
    let filled : List ℕ = put part k p.bytes in
    let all : take p.total filled ≡ filled =
    ap (λ (n : ℕ). take n filled) (sym (length_put part k p.bytes (omega (arith, whole, end)) ∙ whole)) ∙ take-length filled in
    let its : done (take k (take data_size (drop at l)) ++ p.bytes) ≡ done bs = simp (g, t) at e in
    let same : take k (take data_size (drop at l)) ++ p.bytes ≡ bs = cc in
    simp s
    (same_part (λ i. at ≤ i) (put w base (0 ∷ [])) w at p.total (omega (arith, f.room, long, length_put w base (0 ∷ []) (omega (arith, long)))) (omega (arith, f.room, long)) (λ i a b. a)
    (untouched (λ i. at ≤ i) w base (0 ∷ []) (omega (arith, long)) (λ i a b c. omega arith))
    ∙ part_put l at p.total k p.bytes (omega (arith, f.room)) (omega (arith, end))
    ∙ sym all
    ∙ take_put part k p.bytes p.total (omega (arith, whole, end)) end
    ∙ rw (take-take k p.total (drop at l) (omega (arith, end)), ← take-take k data_size (drop at l) (omega (arith, room))) same))
    (λ t. let q : kept ≡ done bs = simp (g, t) at e in let n : ◌≡◌ {A = ℕ} 0 1 = cc in absurd (omega arith)))
