-- A reader that grows byte by byte: what a piece leads to is what its first byte leads to, and then the rest. And the bytes that it has
-- then seen.
-- Assumes nothing.
use Prim.Native.Nat.{ℕ, suc, ◌+◌, ◌-◌, ◌≤◌, ◌<◌, min, max}
use native.Mathlib.Numerals.{add-one}
use native.Mathlib.Omega.{arith}
use mathlib.Core.Bool.{true, false, cond}
use mathlib.Core.List.{List, [], ◌∷◌, ◌++◌, append_assoc, append-nil}
use mathlib.Core.Path.{◌≡◌, refl, sym, ap, ◌∙◌}
use borrow.Author.Tests.{ltb-true, ltb-false, leb-true, leb-false, lt-ltb, le-ltb}
use lib.Dec.{ltb, leb}
use lib.ListN.{length, get_or, set, take, drop, length-append, length-set}
use lib.Seq.{drop-cons, length-take-le, take-suc-set, take_at, take-append-add}
use Rattle.octets.specs.Buffer.{laid}
use Rattle.octets.proofs.Buffer.{laid_none, laid_cons, laid_parts}
use Rattle.octets.proofs.Cases.{cases, holds?, both}
use Rattle.header.specs.Read.{read_header}
use Rattle.pieces.specs.declared.HeaderReader.{HeaderReader}
use Rattle.pieces.specs.Answer.{told}
use Rattle.pieces.specs.Needed.{needed}
use Rattle.pieces.specs.Reader.{waits, awaited_with, says, grown, taken}
use Rattle.pieces.specs.Steps.{grown_with, gathered, spoken}
use Rattle.pieces.proofs.Prefix.{needed_bounds, needed_settled, needed_open, needed_grows}

-- a reader with k bytes seen of an array b, which awaits n
abbrev pub reader : List ℕ → ℕ → ℕ → HeaderReader
reader b k n = record { bytes = b; count = k; awaited = n }

-- what it is to wait
pub waiting : (r : HeaderReader) → waits r ≡ true → (r.count < r.awaited) × (r.awaited ≤ 37)
waiting r e =
    let q = both (ltb r.count r.awaited) (leb r.awaited 37) e in
    (ltb-true _ _ q.0, leb-true _ _ q.1)

-- how many bytes are there with those of a piece
pub joined_length : (b : List ℕ) (k : ℕ) (p : List ℕ) → k ≤ length b → length (take k b ++ p) ≡ k + length p
joined_length b k p h = length-append (take k b) p ∙ ap (λ (i : ℕ). i + length p) (length-take-le k b h)

-- no fewer are awaited than before
pub awaited_least : (n : ℕ) (j : List ℕ) → n ≤ awaited_with n j
awaited_least n j = cases (holds? (ltb (length j) n)) (λ t. simp t (omega arith)) (λ f. simp f (omega arith))

-- the first byte of a piece, stored, and then the rest
grown_next : (b : List ℕ) (k x : ℕ) (p : List ℕ) (n next m to : ℕ) → k < m →
    grown (reader (set b k x) (k + 1) next) p m to ≡ grown (reader b k n) (x ∷ p) m to
grown_next b k x p n next m to h =
    let e : m - k ≡ suc (m - (k + 1)) = omega arith in
    ap (λ (l : List ℕ). reader l m to)
    (laid_cons b k x (take (m - (k + 1)) p) ∙ ap (λ (i : ℕ). laid b k (take i (x ∷ p))) (sym e))

-- the bytes seen with it
pub seen_next : (b : List ℕ) (k x : ℕ) → k < length b → take (k + 1) (set b k x) ≡ take k b ++ (x ∷ [])
seen_next b k x h = rw (add-one k) (take-suc-set b k x h)

joined_next : (b : List ℕ) (k x : ℕ) (p : List ℕ) → k < length b → take (k + 1) (set b k x) ++ p ≡ take k b ++ (x ∷ p)
joined_next b k x p h = ap (λ (l : List ℕ). l ++ p) (seen_next b k x h) ∙ append_assoc (take k b) (x ∷ []) p

-- a byte taken: where the same is awaited of the joined bytes, the rest leads to the same
gathered_next : (b : List ℕ) (k x : ℕ) (p : List ℕ) (n next : ℕ) → k < length b → k < n →
    awaited_with next (take (k + 1) (set b k x) ++ p) ≡ awaited_with n (take (k + 1) (set b k x) ++ p) →
    gathered (reader (set b k x) (k + 1) next) p ≡ gathered (reader b k n) (x ∷ p)
unfolding gathered
gathered_next b k x p n next h wants e =
    let r = reader (set b k x) (k + 1) next in
    let j = take k b ++ (x ∷ p) in
    let long = joined_length b k (x ∷ p) (omega arith) in
    let least = awaited_least n j in
    ap (λ (i : ℕ). grown_with r p (take (k + 1) (set b k x) ++ p) i) e
    ∙ ap (λ (l : List ℕ). grown_with r p l (awaited_with n l)) (joined_next b k x p h)
    ∙ grown_next b k x p n next (min (awaited_with n j) (length j)) (awaited_with n j) (omega (arith, long, least))

-- nothing taken: an empty piece, and a reader that has all bytes that it needs
gathered_none : (b : List ℕ) (k n : ℕ) → k ≤ length b → k < n → gathered (reader b k n) [] ≡ reader b k n
unfolding gathered
gathered_none b k n h wants =
    let j = take k b ++ [] in
    let long : length j ≡ k = ap length (append-nil (take k b)) ∙ length-take-le k b h in
    let waits : ltb (length j) n ≡ true = lt-ltb (length j) n (omega (arith, long)) in
    let all : awaited_with n j ≡ n = simp waits in
    let few : min n (length j) ≡ k = omega (arith, long) in
    let none : k - k ≡ 0 = omega arith in
    ap (grown_with (reader b k n) [] j) all
    ∙ (λ i. grown (reader b k n) [] (few i) n)
    ∙ ap (λ (l : List ℕ). reader l k n) (ap (λ (i : ℕ). laid b k (take i [])) none ∙ laid_none b k)

gathered_settled : (b : List ℕ) (k : ℕ) (p : List ℕ) → k ≤ length b → needed (take k b) ≤ k → gathered (reader b k k) p ≡ reader b k k
unfolding gathered
gathered_settled b k p h enough =
    let j = take k b ++ p in
    let front : length (take k b) ≡ k = length-take-le k b h in
    let long = joined_length b k p h in
    let there : ltb (length j) k ≡ false = le-ltb (length j) k (omega (arith, long)) in
    let same : needed j ≡ needed (take k b) = needed_settled (take k b) p (omega (arith, front)) in
    let all : awaited_with k j ≡ k = simp there (omega (arith, same)) in
    let few : min k (length j) ≡ k = omega (arith, long) in
    let none : k - k ≡ 0 = omega arith in
    ap (grown_with (reader b k k) p j) all
    ∙ (λ i. grown (reader b k k) p (few i) k)
    ∙ ap (λ (l : List ℕ). reader l k k) (ap (λ (i : ℕ). laid b k (take i p)) none ∙ laid_none b k)

-- more is needed than what was awaited: as much is awaited of the joined bytes as by the look at them
awaited_on : (s p : List ℕ) (n : ℕ) → n ≤ length (s ++ p) → n < needed s → awaited_with (needed s) (s ++ p) ≡ awaited_with n (s ++ p)
awaited_on s p n h more =
    let there : ltb (length (s ++ p)) n ≡ false = le-ltb _ _ h in
    let grows = needed_grows s p in
    cases (holds? (ltb (length (s ++ p)) (needed s)))
    (λ short. let same = needed_open s p (ltb-true _ _ short) in simp (short, there) (omega (arith, same)))
    (λ enough. simp (enough, there) (omega arith))

-- what a piece leads to, from any reader: one that awaits no more than it has stays as it is
abbrev pub onward : HeaderReader → List ℕ → HeaderReader
onward r p = cond (ltb r.count r.awaited) (gathered r p) r

pub onward_wants : (r : HeaderReader) (p : List ℕ) → r.count < r.awaited → onward r p ≡ gathered r p
onward_wants r p h = let wants : ltb r.count r.awaited ≡ true = lt-ltb _ _ h in simp wants

-- what is left of a piece from a place on, its first byte apart
pub onward_from : (r : HeaderReader) (p : List ℕ) (i : ℕ) → i < length p → r.count < r.awaited →
    gathered r (get_or p i 0 ∷ drop (i + 1) p) ≡ onward r (drop i p)
onward_from r p i inside wants =
    ap (λ (k : ℕ). gathered r (get_or p i 0 ∷ drop k p)) (add-one i)
    ∙ ap (gathered r) (sym (drop-cons p i 0 inside))
    ∙ sym (onward_wants r (drop i p) wants)

-- before the last byte awaited
pub onward_before : (b : List ℕ) (k x : ℕ) (p : List ℕ) (n : ℕ) → k < length b → k + 1 < n →
    onward (reader (set b k x) (k + 1) n) p ≡ gathered (reader b k n) (x ∷ p)
onward_before b k x p n h wants =
    let waits : ltb (k + 1) n ≡ true = lt-ltb _ _ wants in
    simp waits (gathered_next b k x p n n h (omega arith) refl)

-- at the last byte awaited: the reader looks
pub onward_last : (b : List ℕ) (k x : ℕ) (p : List ℕ) → k < length b →
    onward (reader (set b k x) (k + 1) (max (k + 1) (needed (take (k + 1) (set b k x))))) p ≡ gathered (reader b k (k + 1)) (x ∷ p)
onward_last b k x p h =
    let c = set b k x in
    let s = take (k + 1) c in
    let room : k + 1 ≤ length c = omega (arith, length-set b k x) in
    let front : length s ≡ k + 1 = length-take-le (k + 1) c room in
    cases (holds? (leb (needed s) (k + 1)))
    (λ t.
    let enough : needed s ≤ k + 1 = leb-true _ _ t in
    let most : max (k + 1) (needed s) ≡ k + 1 = omega arith in
    let done : ltb (k + 1) (k + 1) ≡ false = le-ltb (k + 1) (k + 1) (omega arith) in
    ap (λ (n : ℕ). onward (reader c (k + 1) n) p) most
    ∙ simp done (sym (gathered_settled c (k + 1) p room enough) ∙ gathered_next b k x p (k + 1) (k + 1) h (omega arith) refl))
    (λ f.
    let more : k + 1 < needed s = leb-false _ _ f in
    let most : max (k + 1) (needed s) ≡ needed s = omega arith in
    let waits : ltb (k + 1) (needed s) ≡ true = lt-ltb _ _ more in
    let long : k + 1 ≤ length (s ++ p) = omega (arith, length-append s p, front) in
    ap (λ (n : ℕ). onward (reader c (k + 1) n) p) most
    ∙ simp waits (gathered_next b k x p (k + 1) (needed s) h (omega arith) (awaited_on s p (k + 1) long more)))

-- behind the last byte of a piece
pub onward_end : (b : List ℕ) (k n : ℕ) → k ≤ length b → onward (reader b k n) [] ≡ reader b k n
onward_end b k n h =
    cases (holds? (ltb k n)) (λ t. simp t (gathered_none b k n h (ltb-true _ _ t))) (λ f. simp f)

-- the bytes that a grown reader has seen: those of before, and of the piece
pub grown_seen : (b : List ℕ) (k : ℕ) (p : List ℕ) (m : ℕ) → k ≤ m → m ≤ length b → m ≤ k + length p →
    take m (laid b k (take (m - k) p)) ≡ take m (take k b ++ p)
grown_seen b k p m h room few =
    let part : length (take (m - k) p) ≡ m - k = length-take-le (m - k) p (omega arith) in
    let front : length (take k b) ≡ k = length-take-le k b (omega arith) in
    let rest = drop (k + length (take (m - k) p)) b in
    let sum : length (take k b) + (m - k) ≡ m = omega (arith, front) in
    ap (take m) (laid_parts b k (take (m - k) p) (omega (arith, part)) ∙ sym (append_assoc (take k b) (take (m - k) p) rest))
    ∙ take_at (take k b ++ take (m - k) p) rest m (length-append (take k b) (take (m - k) p) ∙ omega (arith, part, front))
    ∙ sym (take-append-add (take k b) p (m - k))
    ∙ ap (λ (i : ℕ). take i (take k b ++ p)) sum

-- so many are awaited as an array holds
awaited_most : (n : ℕ) (j : List ℕ) → n ≤ 37 → awaited_with n j ≤ 37
awaited_most n j h =
    cases (holds? (ltb (length j) n)) (λ t. simp t (omega arith)) (λ f. simp f (omega (arith, (needed_bounds j).1)))

-- what a reader that waits hands back to a piece, by the reader that this leads to
says_grown : (b : List ℕ) (k : ℕ) (p : List ℕ) (n : ℕ) → length b ≡ 37 → k < n → n ≤ 37 →
    spoken (grown_with (reader b k n) p (take k b ++ p) (awaited_with n (take k b ++ p)))
    ≡ says (awaited_with n (take k b ++ p)) (take k b ++ p)
says_grown b k p n whole wants most =
    let j = take k b ++ p in
    let to = awaited_with n j in
    let long = joined_length b k p (omega arith) in
    let least = awaited_least n j in
    let room = awaited_most n j most in
    cases (holds? (ltb (length j) to))
    (λ t.
    let short : length j < to = ltb-true (length j) to t in
    let same : ltb (min to (length j)) to ≡ true = lt-ltb (min to (length j)) to (omega arith) in
    simp (t, same))
    (λ f.
    let there : to ≤ length j = ltb-false (length j) to f in
    let all : min to (length j) ≡ to = omega arith in
    let done : ltb to to ≡ false = le-ltb to to (omega arith) in
    ap (λ (m : ℕ). spoken (grown (reader b k n) p m to)) all
    ∙ simp (f, done)
    (ap (λ (l : List ℕ). told (read_header l))
    (grown_seen b k p to (omega (arith, least)) (omega (arith, room)) (omega (arith, long)))))

pub taken_waiting : (r : HeaderReader) (p : List ℕ) → length r.bytes ≡ 37 → waits r ≡ true →
    taken r p ≡ record { reader = gathered r p; answer = spoken (gathered r p); used = (gathered r p).count - r.count }
unfolding taken gathered
taken_waiting r p whole e =
    let wants = waiting r e in
    simp e
    (λ i. record {
      reader = gathered r p;
      answer = sym (says_grown r.bytes r.count p r.awaited whole wants.0 wants.1) i;
      used = (gathered r p).count - r.count;
    })

-- it has no fewer bytes then
pub gathered_more : (r : HeaderReader) (p : List ℕ) → length r.bytes ≡ 37 → waits r ≡ true → r.count ≤ (gathered r p).count
unfolding gathered
gathered_more r p whole e =
    let wants = waiting r e in
    let long = joined_length r.bytes r.count p (omega (arith, wants.0, wants.1)) in
    omega (arith, wants.0, long, awaited_least r.awaited (take r.count r.bytes ++ p))
