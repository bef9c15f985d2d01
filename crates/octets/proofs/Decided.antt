-- That two answers allowed by a contract coincide (document 01, "What each contract has to decide"), for each shape that the contract of
-- a public function has.
-- Assumes nothing.
use Prim.Native.Nat.{ℕ}
use mathlib.Core.List.{List}
use mathlib.Core.Path.{◌≡◌, sym, ap, ◌∙◌}
use denote.Ref.{Bor}
use Rattle.octets.specs.Stored.{Stored}

-- an equation: the answer is a value made from the input
pub one_answer : {A : Type 0} {value r q : A} → r ≡ value → q ≡ value → r ≡ q
one_answer a b = a ∙ sym b

-- answer and buffer: the buffer is a value made from the input and the answer
pub one_buffer : {A : Type 0} {value r q : A} {o p : List ℕ} (left : A → List ℕ) → r ≡ value → o ≡ left r → q ≡ value → p ≡ left q →
    (r ≡ q) × (o ≡ p)
one_buffer left a c b d = (one_answer a b, c ∙ ap left (one_answer a b) ∙ sym d)

-- stored and place: what the buffer holds, and the place behind it
pub one_store : {l b o p : List ℕ} {at r q : ℕ} → Stored l at b o r → Stored l at b p q → (r ≡ q) × (o ≡ p)
one_store s t = (one_answer s.next t.next, one_answer s.bytes t.bytes)

-- a returned part: its bytes, and the block and the offset where it lies
pub one_part : {bytes : List ℕ} {block offset : ℕ} (r q : Bor (List ℕ)) →
    r.now ≡ bytes → r.ref_ptr.0 ≡ block → r.ref_ptr.1 ≡ offset → q.now ≡ bytes → q.ref_ptr.0 ≡ block → q.ref_ptr.1 ≡ offset →
    (r.now ≡ q.now) × (r.ref_ptr ≡ q.ref_ptr)
one_part r q a b c d e f = (one_answer a d, λ i. (one_answer b e i, one_answer c f i))
