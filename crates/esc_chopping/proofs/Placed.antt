-- Each step keeps where PWM's sample and write stand.
use Rattle.std.proofs.Common.{◌≡◌, ◌≢◌, ◌≤◌, ◌+◌, ◌⊎◌, inl, inr, ℕ, Bool, true, false, not, ◌==◌, if◌then◌else◌, List, [], ◌∷◌, refl, sym, ◌∙◌, arith}
use Rattle.std.specs.List.{fold}
use Rattle.std.proofs.lemmas.Bool.{not-false}
use Rattle.std.proofs.lemmas.Bool.Decides.{nat_tests}
use Rattle.esc_base.specs.declared.note.Note.{Note}
use Rattle.esc_base.specs.declared.note.Note.TheVariants as note
use Rattle.esc_laws.specs.Steps.{Turned}
use Rattle.esc_chopping.specs.View.{By, View, unmoved, view_next, moved_by, told_by, by_of}
use Rattle.esc_chopping.specs.View.By.{CommEnters, CommSteps, PwmEnters, PwmSteps, Lower}
use Rattle.esc_chopping.specs.Laws.{IsTurn}
use Rattle.esc_chopping.specs.Placed.{Placed}

-- what notes leave
pub record Same (v w : View) : Type 0 where
  pub comm : w.comm ≡ v.comm
  pub comm_own : w.comm_own ≡ v.comm_own
  pub pwm : w.pwm ≡ v.pwm
  pub pwm_own : w.pwm_own ≡ v.pwm_own
  pub entered : w.entered ≡ v.entered
  pub sampled : w.sampled ≡ v.sampled
  pub wrote : w.wrote ≡ v.wrote

one_same : (v : View) (n : Note) → Same v (told_by v n)
one_same v (note.Gate t hi lo) = record { comm = refl; comm_own = refl; pwm = refl; pwm_own = refl; entered = refl; sampled = refl; wrote = refl }
one_same v n = record { comm = refl; comm_own = refl; pwm = refl; pwm_own = refl; entered = refl; sampled = refl; wrote = refl }

same_on : (u v w : View) → Same u v → Same v w → Same u w
same_on u v w a b = record {
  comm = b.comm ∙ a.comm;
  comm_own = b.comm_own ∙ a.comm_own;
  pwm = b.pwm ∙ a.pwm;
  pwm_own = b.pwm_own ∙ a.pwm_own;
  entered = b.entered ∙ a.entered;
  sampled = b.sampled ∙ a.sampled;
  wrote = b.wrote ∙ a.wrote;
}

notes_same : (v : View) (notes : List Note) → Same v (fold told_by v notes)
notes_same v [] = record { comm = refl; comm_own = refl; pwm = refl; pwm_own = refl; entered = refl; sampled = refl; wrote = refl }
notes_same v (n ∷ notes) = same_on v (told_by v n) (fold told_by (told_by v n) notes) (one_same v n) (notes_same (told_by v n) notes)

-- after a step the places are those that its kind moved_by to
pub next_same : (v : View) (e : Turned) → Same (moved_by v (by_of e) e.tick) (view_next v e)
next_same v e = let s = notes_same (moved_by v (by_of e) e.tick) e.notes in
    record { comm = s.comm; comm_own = s.comm_own; pwm = s.pwm; pwm_own = s.pwm_own; entered = s.entered; sampled = s.sampled; wrote = s.wrote }

-- without the counts
record Stands (cost x : ℕ) (v : View) : Type 0 where
  entered : v.entered ≤ x
  sampled : v.sampled ≤ x
  wrote : v.wrote ≤ v.sampled
  after_entry : v.pwm ≡ true → 2 ≤ v.pwm_own → v.entered ≤ v.sampled
  after_sample : v.pwm ≡ true → 2 ≤ v.pwm_own → v.sampled + cost ≤ x
  written : v.pwm ≡ true → 5 ≤ v.pwm_own → v.wrote ≡ v.sampled
  shut : v.pwm ≡ false → v.entered ≤ v.wrote

-- an own step of PWM: the second one reads, the fifth one writes
pub record OwnFirst (n t s w s' w' : ℕ) : Type 0 where
  pub is : n ≡ 1
  pub sampled : s' ≡ t
  pub wrote : w' ≡ w

pub record OwnWrites (n t s w s' w' : ℕ) : Type 0 where
  pub is : n ≡ 4
  pub sampled : s' ≡ s
  pub wrote : w' ≡ s

pub record OwnOther (n t s w s' w' : ℕ) : Type 0 where
  pub first : n ≢ 1
  pub fourth : n ≢ 4
  pub sampled : s' ≡ s
  pub wrote : w' ≡ w

pub own_cases : (n t s w : ℕ) → OwnFirst n t s w (if n == 1 then t else s) (if n == 4 then s else w)
    ⊎ (OwnWrites n t s w (if n == 1 then t else s) (if n == 4 then s else w) ⊎ OwnOther n t s w (if n == 1 then t else s) (if n == 4 then s else w))
own_cases n t s w = by_test (n == 1) (n == 4) refl refl
  where
    by_test : (a b : Bool) → (n == 1) ≡ a → (n == 4) ≡ b → OwnFirst n t s w (if a then t else s) (if b then s else w)
        ⊎ (OwnWrites n t s w (if a then t else s) (if b then s else w) ⊎ OwnOther n t s w (if a then t else s) (if b then s else w))
    by_test true true e f = absurd (grind (arith, nat_tests))
    by_test true false e f = inl (record { is = grind (arith, nat_tests); sampled = refl; wrote = refl })
    by_test false true e f = inr (inl (record { is = grind (arith, nat_tests); sampled = refl; wrote = refl }))
    by_test false false e f = inr (inr (record { first = grind (arith, nat_tests); fourth = grind (arith, nat_tests); sampled = refl; wrote = refl }))

-- what an own step of PWM leaves
record OwnLeft (l : Bool) (v w : View) : Type 0 where
  pwm : w.pwm ≡ not l
  own : w.pwm_own ≡ v.pwm_own + 1
  entered : w.entered ≡ v.entered

own_stands : (cost x x' t : ℕ) (l : Bool) (v w : View) → x ≤ t → t + cost ≤ x' → Stands cost x v → v.pwm ≡ true → (l ≡ true → 5 ≤ v.pwm_own + 1) → OwnLeft l v w
    → OwnFirst v.pwm_own t v.sampled v.wrote w.sampled w.wrote ⊎ (OwnWrites v.pwm_own t v.sampled v.wrote w.sampled w.wrote
    ⊎ OwnOther v.pwm_own t v.sampled v.wrote w.sampled w.wrote)
    → Stands cost x' w
own_stands cost x x' t l v w le nx st o all new (inl h) =
    let a = h.is in let b = h.sampled in let c = h.wrote in let n = new.own in let e = new.entered in
    let se = st.entered in let ss = st.sampled in let sw = st.wrote in
    record {
      entered = omega arith;
      sampled = omega arith;
      wrote = omega arith;
      after_entry = λ p q. omega arith;
      after_sample = λ p q. omega arith;
      written = λ p q. absurd (omega arith);
      shut = λ p. absurd (let g : l ≡ true = not-false l (sym new.pwm ∙ p) in let h5 = all g in omega arith);
    }
own_stands cost x x' t l v w le nx st o all new (inr (inl h)) =
    let a = h.is in let b = h.sampled in let c = h.wrote in let n = new.own in let e = new.entered in
    let se = st.entered in let ss = st.sampled in let sw = st.wrote in let sa : v.entered ≤ v.sampled =
    st.after_entry o (omega arith) in let sb : v.sampled + cost ≤ x = st.after_sample o (omega arith) in
    record {
      entered = omega arith;
      sampled = omega arith;
      wrote = omega arith;
      after_entry = λ p q. omega arith;
      after_sample = λ p q. omega arith;
      written = λ p q. omega arith;
      shut = λ p. omega arith;
    }
own_stands cost x x' t l v w le nx st o all new (inr (inr h)) =
    let a = h.first in let a4 = h.fourth in let b = h.sampled in let c = h.wrote in let n = new.own in let e = new.entered in
    let se = st.entered in let ss = st.sampled in let sw = st.wrote in
    record {
      entered = omega arith;
      sampled = omega arith;
      wrote = omega arith;
      after_entry = λ p q. let sa : v.entered ≤ v.sampled = st.after_entry o (omega arith) in omega arith;
      after_sample = λ p q. let sb : v.sampled + cost ≤ x = st.after_sample o (omega arith) in omega arith;
      written = λ p q. let sc : v.wrote ≡ v.sampled = st.written o (omega arith) in omega arith;
      shut = λ p.
          let g : l ≡ true = not-false l (sym new.pwm ∙ p) in let h5 = all g in
          let sa : v.entered ≤ v.sampled = st.after_entry o (omega arith) in let sc : v.wrote ≡ v.sampled = st.written o (omega arith) in omega arith;
    }

-- where PWM makes no step
still_stands : (cost x x' : ℕ) (v w : View) → x ≤ x' → Stands cost x v → Same v w → Stands cost x' w
still_stands cost x x' v w le st s = record {
  entered = rw (s.entered) (let a = st.entered in omega arith);
  sampled = rw (s.sampled) (let a = st.sampled in omega arith);
  wrote = rw (s.wrote, s.sampled) st.wrote;
  after_entry = rw (s.pwm, s.pwm_own, s.entered, s.sampled) st.after_entry;
  after_sample = rw (s.pwm, s.pwm_own, s.sampled) (λ p q. let a = st.after_sample p q in omega arith);
  written = rw (s.pwm, s.pwm_own, s.wrote, s.sampled) st.written;
  shut = rw (s.pwm, s.entered, s.wrote) st.shut;
}

moved_stands : (cost x x' t : ℕ) (v : View) (by : By) → x ≤ t → t + cost ≤ x' → IsTurn v by → Stands cost x v → Stands cost x' (moved_by v by t)
moved_stands cost x x' t v CommEnters le nx turn st = record {
  entered = let a = st.entered in omega arith;
  sampled = let a = st.sampled in omega arith;
  wrote = st.wrote;
  after_entry = st.after_entry;
  after_sample = λ p q. let a = st.after_sample p q in omega arith;
  written = st.written;
  shut = st.shut;
}
moved_stands cost x x' t v (CommSteps l) le nx turn st = record {
  entered = let a = st.entered in omega arith;
  sampled = let a = st.sampled in omega arith;
  wrote = st.wrote;
  after_entry = st.after_entry;
  after_sample = λ p q. let a = st.after_sample p q in omega arith;
  written = st.written;
  shut = st.shut;
}
moved_stands cost x x' t v PwmEnters le nx turn st = record {
  entered = omega arith;
  sampled = let a = st.sampled in omega arith;
  wrote = st.wrote;
  after_entry = λ p q. absurd (omega arith);
  after_sample = λ p q. absurd (omega arith);
  written = λ p q. absurd (omega arith);
  shut = λ p. cc;
}
moved_stands cost x x' t v (PwmSteps l) le nx turn st =
    own_stands cost x x' t l v (moved_by v (PwmSteps l) t) le nx st turn.is_open turn.all (record { pwm = refl; own = refl; entered = refl })
    (own_cases v.pwm_own t v.sampled v.wrote)
moved_stands cost x x' t v Lower le nx turn st = record {
  entered = let a = st.entered in omega arith;
  sampled = let a = st.sampled in omega arith;
  wrote = st.wrote;
  after_entry = st.after_entry;
  after_sample = λ p q. let a = st.after_sample p q in omega arith;
  written = st.written;
  shut = st.shut;
}

stands_of : (cost x : ℕ) (v : View) → Placed cost x v → Stands cost x v
stands_of cost x v p = record {
  entered = p.entered;
  sampled = p.sampled;
  wrote = p.wrote;
  after_entry = p.after_entry;
  after_sample =
      p.after_sample;
  written = p.written;
  shut = p.shut;
}

moved_few : (v : View) (t : ℕ) (by : By) → IsTurn v by → v.pwm_own ≤ 12 → (moved_by v by t).pwm_own ≤ 12
moved_few v t CommEnters turn le = le
moved_few v t (CommSteps l) turn le = le
moved_few v t PwmEnters turn le = omega arith
moved_few v t (PwmSteps l) turn le = turn.few
moved_few v t Lower turn le = le

next_few : (cost : ℕ) {x : ℕ} (v : View) (e : Turned) → IsTurn v (by_of e) → Placed cost x v → (view_next v e).pwm_own ≤ 12
next_few cost v e turn p = let s = next_same v e in rw (s.pwm_own) (moved_few v e.tick (by_of e) turn p.few)

pub next_placed : (cost x x' : ℕ) (v : View) (e : Turned) → x ≤ e.tick → e.tick + cost ≤ x' → IsTurn v (by_of e) → (view_next v e).pwm_waits ≤ 8
    → (view_next v e).comm_waits ≤ 8 → Placed cost x v → Placed cost x' (view_next v e)
next_placed cost x x' v e le nx turn a b p =
    let st = still_stands cost x' x' (moved_by v (by_of e) e.tick) (view_next v e) (omega arith)
    (moved_stands cost x x' e.tick v (by_of e) le nx turn (stands_of cost x v p)) (next_same v e) in
    record {
      entered = st.entered;
      sampled = st.sampled;
      wrote = st.wrote;
      after_entry = st.after_entry;
      after_sample = st.after_sample;
      written =
          st.written;
      shut = st.shut;
      few = next_few cost v e turn p;
      patient = a;
      comm_patient = b;
    }

pub start_placed : (cost x : ℕ) → Placed cost x unmoved
start_placed cost x = record {
  entered = omega arith;
  sampled = omega arith;
  wrote = omega arith;
  after_entry = λ p q. cc;
  after_sample = λ p q. cc;
  written = λ p q. cc;
  shut = λ p. omega arith;
  few = omega arith;
  patient = omega arith;
  comm_patient = omega arith;
}
