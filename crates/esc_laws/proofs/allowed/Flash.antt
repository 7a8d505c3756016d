-- These flashes keep the law of saves.
use Rattle.std.proofs.Common.{◌≡◌, ◌≤◌, inl, inr, ℕ, ◌+◌, List, [], ◌∷◌, ◌++◌, length, map, Option, Some, refl, sym, subst, arith}
use Rattle.esc_base.specs.Flash.{blank}
use Rattle.settings_block.specs.Block.{block_of}
use Rattle.settings_block.specs.Settings.{default_settings}
use Rattle.esc_laws.specs.Saves.{and_places, any_places, erased_places, Holds}
use Rattle.esc_laws.specs.allowed.Flash.{SomeFlashesFit}
use Rattle.esc_laws.proofs.Flash.{holds_self, holds_append, holds_any}
use Rattle.esc_laws.proofs.refused.Flash.{done_page, spoilt_page}

page_saved : Holds (and_places (erased_places 1024) (block_of default_settings)) (block_of default_settings ++ blank 976)
unfolding erased_places blank
page_saved = holds_self (block_of default_settings ++ blank 976)

pub some_flashes_fit : SomeFlashesFit
some_flashes_fit = record {
  save_done = λ below page faults a. record {
    holds = subst (λ (places : List (Option ℕ)). Holds places (below ++ (block_of default_settings ++ blank 976)))
        (sym (done_page (block_of default_settings) below page a))
        (holds_append (map Some below) (and_places (erased_places 1024) (block_of default_settings)) below (block_of default_settings ++ blank 976)
        (holds_self below) page_saved);
    counted = inl (omega arith);
  };
  save_refused = λ below page after faults a len. record {
    holds = subst (λ (places : List (Option ℕ)). Holds places (below ++ after)) (sym (spoilt_page (block_of default_settings) below page a))
        (holds_append (map Some below) (any_places 1024) below after (holds_self below) (holds_any 1024 after len));
    counted = inl (omega arith);
  };
  full_count = record { holds = tt; counted = inr (omega arith) };
}
