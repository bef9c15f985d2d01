-- The bridge's edits: what each leaves of a record, and that an edited record is written and read back.
-- Assumes nothing.
use Prim.Native.Nat.{ℕ}
use native.Mathlib.Omega.{arith}
use mathlib.Core.Bool.{Bool, true, false, true≢false}
use mathlib.Core.List.{List, [], ◌∷◌, ◌++◌}
use mathlib.Core.Logic.{◌⊎◌, inl, inr}
use mathlib.Core.Path.{◌≡◌, refl, sym, ap, ◌∙◌}
use borrow.Author.Tests.{eqb-true, eq-eqb, ne_eqb}
use Rattle.std.specs.Prelude.{Option, Some, None, Ok}
use Rattle.octets.specs.Little.{Bytes}
use Rattle.octets.proofs.Cases.{cases, holds?}
use Rattle.identifiers.specs.declared.PanId.{PanId}
use Rattle.identifiers.specs.PanId.{pan}
use Rattle.address.specs.declared.Address.{Address}
use Rattle.address.specs.declared.Address.TheVariants.{Short, Extended}
use Rattle.address.specs.Address.{pan_of, shared_pan}
use Rattle.address.specs.Layout.{SmallAddress}
use Rattle.address_pair.specs.Pair.{pair_lacks, pair_shares}
use Rattle.security.specs.Optional.{counter_read}
use Rattle.header.specs.declared.Header.{Header}
use Rattle.header.specs.Record.{edited}
use Rattle.header.specs.Read.{read_header}
use Rattle.header.specs.Write.{lacks_address}
use Rattle.header.proofs.Bounds.{length_bounds}
use Rattle.header_facts.specs.Rewritten.{quiet, lost, rewritten}
use Rattle.header_facts.specs.Told.{part_told, Small}
use Rattle.header_facts.specs.Edited.{Edited, Edits, Edit, replace_destination, replace_source, remove_source, switch_off, switch_on}
use Rattle.header_facts.specs.Edited.{edited_by, number_of, edited_by_all, SmallEdit, SmallEdits, AfterEdit, Bridged}
use Rattle.header_facts.proofs.Back.{owned_back, both_shared, record_side}
use Rattle.header_facts.proofs.Fit.{Sound, Fit, accepted, long, again, in_buffer}
use Rattle.header_facts.proofs.Trip.{fit_read}

-- each field of a record with compression and addresses exchanged
exchanged : (h : Header) (compress : Bool) (to from : Option Address) → Edited h compress to from (edited h compress to from)
exchanged h compress to from = record {
  frame_type = refl;
  frame_pending = refl;
  ack_request = refl;
  pan_id_compress = refl;
  seq_no_suppress = refl;
  ie_present = refl;
  version = refl;
  seq = refl;
  destination = refl;
  source = refl;
  security = refl;
  kept = refl;
}

-- the test of 12 tells whether both addresses are there with equal PAN ids
equal_pans : (d s : Option Address) (a b : Address) → d ≡ Some a → s ≡ Some b → pan_of a ≡ pan_of b → pair_shares d s ≡ true
equal_pans d s a b to from e =
    (λ i. pair_shares (to i) (from i)) ∙ eq-eqb (pan_of a).0 (pan_of b).0 (ap (λ (p : PanId). p.0) e)

unequal_pans : (d s : Option Address) → ((a b : Address) → d ≡ Some a → s ≡ Some b → pan_of a ≡ pan_of b → ⊥) →
    pair_shares d s ≡ false
unequal_pans None s f = refl
unequal_pans (Some a) None f = refl
unequal_pans (Some a) (Some b) f = ne_eqb (pan_of a).0 (pan_of b).0 (λ e. f a b refl refl (ap pan e))

-- What each edit leaves of a record, and when 12 is given.
pub edits : (h : Header) → Edits h
edits h = record {
  destination_replaced_lem = λ a. exchanged h false (Some a) h.source;
  source_replaced_lem = λ a. exchanged h false h.destination (Some a);
  source_removed_lem = exchanged h false h.destination None;
  compression_off_lem = exchanged h false h.destination h.source;
  compression_on_lem = λ a b to from e.
      simp (equal_pans h.destination h.source a b to from e) (refl, exchanged h true h.destination h.source);
  unshared = λ f. simp (unequal_pans h.destination h.source f) (refl, refl);
}

-- an accepted edit makes compression and kept length sound, whatever they were
sound_off : (h : Header) (d s : Option Address) → Sound (edited h false d s)
sound_off h d s = record { shared = refl; source = owned_back (shared_pan d) s; kept = refl }

sound_on : (h : Header) (d s : Option Address) → pair_shares d s ≡ true → Sound (edited h true d s)
sound_on h None s e = absurd (true≢false (sym e))
sound_on h (Some d) None e = absurd (true≢false (sym e))
sound_on h (Some d) (Some (Short p a)) e = record {
  shared = both_shared true (Some d) (Some (Short p a)) refl;
  source = ap (λ (n : ℕ). Some (Short (pan n) a)) (eqb-true (pan_of d).0 p.0 e);
  kept = refl;
}
sound_on h (Some d) (Some (Extended p a)) e = record {
  shared = both_shared true (Some d) (Some (Extended p a)) refl;
  source = ap (λ (n : ℕ). Some (Extended (pan n) a)) (eqb-true (pan_of d).0 p.0 e);
  kept = refl;
}

-- nor does it leave compression with an address missing
shares_both : (d s : Option Address) → pair_shares d s ≡ true → pair_lacks true d s ≡ false
shares_both None s e = absurd (true≢false (sym e))
shares_both (Some d) None e = absurd (true≢false (sym e))
shares_both (Some d) (Some s) e = refl

taken : (h : Header) (edit : Edit) → number_of edit h ≡ 0 → Sound (edited_by edit h) × (lacks_address (edited_by edit h) ≡ false)
taken h (replace_destination a) zero = (sound_off h (Some a) h.source, refl)
taken h (replace_source a) zero = (sound_off h h.destination (Some a), refl)
taken h remove_source zero = (sound_off h h.destination None, refl)
taken h switch_off zero = (sound_off h h.destination h.source, refl)
taken h switch_on zero =
    cases (holds? (pair_shares h.destination h.source))
    (λ t. simp t (sound_on h h.destination h.source t, shares_both h.destination h.source t))
    (λ f. absurd (omega (arith, simp f at zero)))

-- an edit is accepted, or 12 is given and the record stays
answer : (h : Header) (edit : Edit) → (number_of edit h ≡ 0) ⊎ ((number_of edit h ≡ 12) × (edited_by edit h ≡ h))
answer h (replace_destination a) = inl refl
answer h (replace_source a) = inl refl
answer h remove_source = inl refl
answer h switch_off = inl refl
answer h switch_on =
    cases (holds? (pair_shares h.destination h.source))
    (λ t. simp t (inl refl))
    (λ f. simp f (inr (refl, refl)))

-- the security part stays, and each number stays within its width
security_stays : (h : Header) (edit : Edit) → (edited_by edit h).auxiliary_security_header ≡ h.auxiliary_security_header
security_stays h (replace_destination a) = refl
security_stays h (replace_source a) = refl
security_stays h remove_source = refl
security_stays h switch_off = refl
security_stays h switch_on = cases (holds? (pair_shares h.destination h.source)) (λ t. simp t) (λ f. simp f)

small_edited : (h : Header) (compress : Bool) (d s : Option Address) → Small h → SmallAddress d → SmallAddress s →
    Small (edited h compress d s)
small_edited h compress d s small to from = record { seq = small.seq; destination = to; source = from; security = small.security }

small_stays : (h : Header) (edit : Edit) → Small h → SmallEdit edit → Small (edited_by edit h)
small_stays h (replace_destination a) small fits = small_edited h false (Some a) h.source small fits small.source
small_stays h (replace_source a) small fits = small_edited h false h.destination (Some a) small small.destination fits
small_stays h remove_source small fits = small_edited h false h.destination None small small.destination tt
small_stays h switch_off small fits = small_edited h false h.destination h.source small small.destination small.source
small_stays h switch_on small fits =
    cases (holds? (pair_shares h.destination h.source))
    (λ t. simp t (small_edited h true h.destination h.source small small.destination small.source))
    (λ f. simp f small)

-- What holds of any record that a program can hold, after an edit.
pub after_edit : (h : Header) (edit : Edit) → Small h → SmallEdit edit → AfterEdit h edit
after_edit h edit small fits =
    let g = edited_by edit h in
    record {
      kept = λ zero. (taken h edit zero).0.kept;
      whole = λ zero. (taken h edit zero).1;
      back = λ counter room n more fits-counter e. record_side g counter room n more (small_stays h edit small fits) fits-counter e;
      told = λ zero counter.
          ap (λ (s : Option Address). quiet g s (part_told g.auxiliary_security_header counter)) (taken h edit zero).0.source;
    }

-- an edit keeps a record fit, and so do edits one after the other
fit_edit : (h : Header) (edit : Edit) → SmallEdit edit → Fit h → Fit (edited_by edit h)
fit_edit h edit fits fit =
    cases (answer h edit)
    (λ zero. record {
      small = small_stays h edit fit.small fits;
      part = rw (security_stays h edit) fit.part;
      sound = (taken h edit zero).0;
    })
    (λ stays. rw stays.1 fit)

fit_all : (h : Header) (changes : List Edit) → SmallEdits changes → Fit h → Fit (edited_by_all changes h)
unfolding edited_by_all
fit_all h [] fits fit = fit
fit_all h (edit ∷ changes) fits fit = fit_all (edited_by edit h) changes fits.1 (fit_edit h edit fits.0 fit)

security_all : (h : Header) (changes : List Edit) →
    (edited_by_all changes h).auxiliary_security_header ≡ h.auxiliary_security_header
unfolding edited_by_all
security_all h [] = refl
security_all h (edit ∷ changes) = security_all (edited_by edit h) changes ∙ security_stays h edit

-- only where none was accepted is an address missing that compression asks for
lacking : (h : Header) (changes : List Edit) → lacks_address (edited_by_all changes h) ≡ true → edited_by_all changes h ≡ h
unfolding edited_by_all
lacking h [] lacks = refl
lacking h (edit ∷ changes) lacks =
    let same = lacking (edited_by edit h) changes lacks in
    cases (answer h edit)
    (λ zero. absurd (true≢false (sym lacks ∙ ap lacks_address same ∙ (taken h edit zero).1)))
    (λ stays. same ∙ stays.1)

-- What holds of a header that was read, edited by any edits and written with the counter that was read.
pub bridged : (s : List ℕ) (h : Header) (n : ℕ) (changes : List Edit) → Bytes s → read_header s ≡ Ok (h, n) → SmallEdits changes →
    Bridged h (edited_by_all changes h)
bridged s h n changes b e small =
    let g = edited_by_all changes h in
    let fit = fit_all h changes small (fit_read s h n b e) in
    let bounds = length_bounds (rewritten g ++ []) (lost g) g.length (again g fit []) in
    record {
      kept = fit.sound.kept;
      long = long g fit;
      least = bounds.0;
      most = bounds.1;
      counter = ap counter_read (security_all h changes);
      lacking = lacking h changes;
      accepted = accepted g fit;
      again = again g fit;
      in_buffer = λ out to. in_buffer g out to fit;
    }
