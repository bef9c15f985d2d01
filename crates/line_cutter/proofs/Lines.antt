-- Laws of all lines of an input: how one line is cut from the front, that chunks may be cut anywhere, and that a program which looks at
-- k bytes of a line needs no more of it kept.
-- Assumes nothing.
use Prim.Native.Nat.{ℕ, zero, suc, ◌<◌}
use native.Mathlib.Omega.{arith}
use mathlib.Core.List.{List, [], ◌∷◌, ◌++◌, append-nil, append_assoc}
use mathlib.Core.Path.{◌≡◌, refl, sym, ap, ◌∙◌}
use lib.Dec.{eqb}
use lib.ListN.{length, take, length-take}
use lib.Seq.{take-take}
use Rattle.octets.proofs.Cases.{cases, holds?}
use Rattle.line_cutter.specs.Lines.{ended, begun, last, lines, run, joined, in_chunks, Sees}
use Rattle.line_cutter.proofs.Line.{Free}

-- bytes without a line feed end no line
pub ended_free : (x l : List ℕ) → Free 10 x → ended l x ≡ []
unfolding ended
ended_free [] l f = refl
ended_free (b ∷ x) l f = simp f.0 (ended_free x (l ++ (b ∷ [])) f.1)

pub begun_free : (x l : List ℕ) → Free 10 x → begun l x ≡ l ++ x
unfolding begun
begun_free [] l f = sym (append-nil l)
begun_free (b ∷ x) l f = simp f.0 (begun_free x (l ++ (b ∷ [])) f.1 ∙ append_assoc l (b ∷ []) x)

-- a line feed ends the line before it
pub ended_line : (x l t : List ℕ) → Free 10 x → ended l (x ++ (10 ∷ t)) ≡ (l ++ x) ∷ ended [] t
unfolding ended
ended_line [] l t f = ap (λ (y : List ℕ). y ∷ ended [] t) (sym (append-nil l))
ended_line (b ∷ x) l t f =
    simp f.0 (ended_line x (l ++ (b ∷ [])) t f.1 ∙ ap (λ (y : List ℕ). y ∷ ended [] t) (append_assoc l (b ∷ []) x))

pub begun_line : (x l t : List ℕ) → Free 10 x → begun l (x ++ (10 ∷ t)) ≡ begun [] t
unfolding begun
begun_line [] l t f = refl
begun_line (b ∷ x) l t f = simp f.0 (begun_line x (l ++ (b ∷ [])) t f.1)

-- two chunks are one
pub ended_join : (l s t : List ℕ) → ended l (s ++ t) ≡ ended l s ++ ended (begun l s) t
unfolding ended begun
ended_join l [] t = refl
ended_join l (b ∷ s) t =
    cases (holds? (eqb b 10)) (λ e. simp e (ap (λ (y : List (List ℕ)). l ∷ y) (ended_join [] s t)))
    (λ e. simp e (ended_join (l ++ (b ∷ [])) s t))

pub begun_join : (l s t : List ℕ) → begun l (s ++ t) ≡ begun (begun l s) t
unfolding begun
begun_join l [] t = refl
begun_join l (b ∷ s) t = cases (holds? (eqb b 10)) (λ e. simp e (begun_join [] s t)) (λ e. simp e (begun_join (l ++ (b ∷ [])) s t))

-- the front of a list that something is added to depends on its own front alone
take_front : (k : ℕ) (l t : List ℕ) → take k (take k l ++ t) ≡ take k (l ++ t)
take_front zero l t = refl
take_front (suc k) [] t = refl
take_front (suc k) (b ∷ l) t = ap (λ (y : List ℕ). b ∷ y) (take_front k l t)

take_more : (k : ℕ) (l m t : List ℕ) → take k l ≡ take k m → take k (l ++ t) ≡ take k (m ++ t)
take_more k l m t e = sym (take_front k l t) ∙ ap (λ (y : List ℕ). take k (y ++ t)) e ∙ take_front k m t

-- so does what has come of the next line
pub begun_kept : (k : ℕ) (s l m : List ℕ) → take k l ≡ take k m → take k (begun l s) ≡ take k (begun m s)
unfolding begun
begun_kept k [] l m e = e
begun_kept k (b ∷ s) l m e =
    cases (holds? (eqb b 10)) (λ f. simp f) (λ f. simp f (begun_kept k s (l ++ (b ∷ [])) (m ++ (b ∷ [])) (take_more k l m (b ∷ []) e)))

module _ {S : Type 0} (step : S → List ℕ → S) where
  -- work on some lines and then on others is work on all
  pub run_join : (s : S) (ls ms : List (List ℕ)) → run step s (ls ++ ms) ≡ run step (run step s ls) ms
  unfolding run
  run_join s [] ms = refl
  run_join s (l ∷ ls) ms = run_join (step s l) ls ms

  module _ (k : ℕ) (some : 0 < k) (sees : Sees k step) where
    same_step : (s : S) (l m : List ℕ) → take k l ≡ take k m → step s l ≡ step s m
    same_step s l m e = sym (sees s l) ∙ ap (step s) e ∙ sees s m

    pub run_kept : (t : List ℕ) (s : S) (l m : List ℕ) → take k l ≡ take k m → run step s (ended l t) ≡ run step s (ended m t)
    unfolding run ended
    run_kept [] s l m e = refl
    run_kept (b ∷ t) s l m e =
        cases (holds? (eqb b 10))
        (λ f. simp f (ap (λ (s : S). run step s (ended [] t)) (same_step s l m e)))
        (λ f. simp f (run_kept t s (l ++ (b ∷ [])) (m ++ (b ∷ [])) (take_more k l m (b ∷ []) e)))

    last_kept : (s : S) (l m : List ℕ) → take k l ≡ take k m → run step s (last l) ≡ run step s (last m)
    unfolding run last
    last_kept s [] [] e = refl
    last_kept s [] (b ∷ m) e = absurd (omega (arith, ap length e, length-take {A = ℕ} k [], length-take k (b ∷ m)))
    last_kept s (a ∷ l) [] e = absurd (omega (arith, ap length e, length-take {A = ℕ} k [], length-take k (a ∷ l)))
    last_kept s (a ∷ l) (b ∷ m) e = same_step s (a ∷ l) (b ∷ m) e

    -- from a line at hand on, with a state for what was done
    from : (cs : List (List ℕ)) (s : S) (l : List ℕ) →
        in_chunks step k s l cs ≡ run step (run step s (ended l (joined cs))) (last (begun l (joined cs)))
    unfolding in_chunks joined run ended begun
    from [] s l = refl
    from (c ∷ cs) s l =
        let t = joined cs in
        let x = begun l c in
        let kept = take-take k k x (omega arith) in
        from cs (run step s (ended l c)) (take k x)
        ∙ ap (λ (s : S). run step s (last (begun (take k x) t))) (run_kept t (run step s (ended l c)) (take k x) x kept)
        ∙ last_kept _ (begun (take k x) t) (begun x t) (begun_kept k t (take k x) x kept)
        ∙ ap (λ (s : S). run step s (last (begun x t))) (sym (run_join s (ended l c) (ended x t)) ∙ ap (run step s) (sym (ended_join l c t)))
        ∙ ap (λ (y : List ℕ). run step (run step s (ended l (c ++ t))) (last y)) (sym (begun_join l c t))

    -- however an input is cut into chunks, the work on them is the work on the lines of the whole
    pub however_cut : (s : S) (cs : List (List ℕ)) → in_chunks step k s [] cs ≡ run step s (lines (joined cs))
    unfolding lines
    however_cut s cs = from cs s [] ∙ sym (run_join s (ended [] (joined cs)) (last (begun [] (joined cs))))
