-- The lines of a script are followed, one after the other.
use Rattle.std.specs.Option.{option_to_list}
use Rattle.std.proofs.Common.{◌≡◌, Some, ℕ, List, [], ◌∷◌, ◌++◌, Option, refl, sym, ◌∙◌, ap, subst, append_assoc}
use Rattle.esc_base.specs.declared.tick.Tick.{Tick}
use Rattle.esc_base.specs.declared.signal.Mode.{Mode}
use Rattle.am32trace.specs.declared.action.Action.{Action}
use Rattle.am32trace.specs.declared.action.Directive.{Directive}
use Rattle.am32trace.specs.declared.action.Directive.TheVariants as line
use Rattle.am32trace.specs.declared.flight.Flight.{Flight}
use Rattle.am32trace.specs.Asked.{Due, at_rest, Sender, asked_by, no_signal, fresh, due_by, sender_by, due_before}
use Rattle.am32trace.specs.Line.{sender_of, IsWell}
use Rattle.am32trace.specs.Flown.{Keeps, GoesOn, Ends, Follows, IsLast, IsFlight}

-- what these lines ask for was followed
pub record Under (asked : List Directive) (f : Flight) (first now : Option (List ℕ)) : Type 0 where
  pub due : List Due
  pub keeps : Keeps f first now due
  pub well : IsWell f.signal
  pub adds : (more : List Directive) → asked_by no_signal (asked ++ more) ≡ due ++ asked_by (sender_of f.signal) more

pub none_yet : (f : Flight) (given : Option (List ℕ)) → Keeps f given given [] → IsWell f.signal → sender_of f.signal ≡ no_signal → Under [] f given given
none_yet f given k well is = record {
  due = [];
  keeps = k;
  well = well;
  adds = λ more. ap (λ (s : Sender). asked_by s more) (sym is);
}

pub followed : (asked : List Directive) (d : Option Directive) (f g : Flight) (first a b : Option (List ℕ)) → Under asked f first a → Follows d f a g b
    → Under (asked ++ option_to_list d) g first b
followed asked d f g first a b u l = record {
  due = u.due ++ l.due;
  keeps = l.goes_on.keeps first u.due u.keeps;
  well = l.goes_on.well;
  adds = λ more.
      ap (λ (ls : List Directive). asked_by no_signal ls) (append_assoc asked (option_to_list d) more)
      ∙ u.adds (option_to_list d ++ more)
      ∙ ap (λ (ds : List Due). u.due ++ ds) (l.adds more)
      ∙ sym (append_assoc u.due l.due (asked_by (sender_of g.signal) more));
}

end_asks : (s : Sender) (t : Tick) (lines : List Directive) → asked_by s (line.End t ∷ lines) ≡ due_before s t.0
unfolding asked_by
end_asks s t lines = refl

pub ended : (asked : List Directive) (f : Flight) (first a b : Option (List ℕ)) (t : Tick) → Under asked f first a
    → Ends f a b (due_before (sender_of f.signal) t.0) t.0 → IsFlight first b (asked_by no_signal (asked ++ line.End t ∷ [])) t.0
ended asked f first a b t u x =
    subst (λ (ds : List Due). IsFlight first b ds t.0)
    (sym (u.adds (line.End t ∷ []) ∙ ap (λ (ds : List Due). u.due ++ ds) (end_asks (sender_of f.signal) t []))) (x first u.due u.keeps)

-- ---- each kind of line

signal_asks : (s : Sender) (m : Mode) (period : ℕ) (lines : List Directive)
    → asked_by s (line.Signal m period ∷ lines) ≡ at_rest m ++ asked_by (fresh m period) lines
unfolding asked_by
signal_asks s m period lines = refl

action_asks : (s : Sender) (t : Tick) (x : Action) (lines : List Directive)
    → asked_by s (line.At t x ∷ lines) ≡ due_by s t.0 x ++ asked_by (sender_by s t.0 x) lines
unfolding asked_by
action_asks s t x lines = refl

pub signal_line : (f g : Flight) (a b : Option (List ℕ)) (m : Mode) (period : ℕ) → GoesOn f a g b (at_rest m) (fresh m period)
    → Follows (Some (line.Signal m period)) f a g b
signal_line f g a b m period x = record {
  due = at_rest m;
  goes_on = subst (λ (s : Sender). GoesOn f a g b (at_rest m) s) (sym x.is) x;
  adds = λ lines. signal_asks (sender_of f.signal) m period lines ∙ ap (λ (s : Sender). at_rest m ++ asked_by s lines) (sym x.is);
}

pub action_line : (f g : Flight) (a b : Option (List ℕ)) (t : Tick) (y : Action)
    → GoesOn f a g b (due_by (sender_of f.signal) t.0 y) (sender_by (sender_of f.signal) t.0 y) → Follows (Some (line.At t y)) f a g b
action_line f g a b t y x = record {
  due = due_by (sender_of f.signal) t.0 y;
  goes_on = subst (λ (s : Sender). GoesOn f a g b (due_by (sender_of f.signal) t.0 y) s) (sym x.is) x;
  adds = λ lines.
      action_asks (sender_of f.signal) t y lines
      ∙ ap (λ (s : Sender). due_by (sender_of f.signal) t.0 y ++ asked_by s lines) (sym x.is);
}

pub end_line : (f : Flight) (a b : Option (List ℕ)) (t : Tick) → Ends f a b (due_before (sender_of f.signal) t.0) t.0 → IsLast (Some (line.End t)) f a b
end_line f a b t x = record { end = t; is = refl; ends = x }
