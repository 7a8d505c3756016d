use Rattle.std.proofs.Common.{◌≡◌, Bool, true, false, [], ◌∷◌, refl, rules}
use Rattle.esc_core.specs.Calls.{answer_of, took_first}
use Rattle.esc_core.proofs.state.Core.save_settings.Goals as goal

took_back : (took : Bool) → took_first (answer_of took ∷ []) ≡ took
took_back true = refl
took_back false = refl

pub returns-clause-made : goal.returns-clause-made
returns-clause-made g c = record {
  answers = answer_of c.takes_block-saved.result ∷ [];
  stepped = rw (took_back c.takes_block-saved.result) (search rules);
  flash_is = rw (← c.self.view_is) (g.D.FlashDev.told c.takes_block-saved.new.dev, c.takes_block-saved.ensures, refl);
}
