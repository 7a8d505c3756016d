use Rattle.std.proofs.Common.{◌≤◌, ◌<◌, ◌+◌, length, [], arith}
use Rattle.std.proofs.lemmas.List.Elements.{All-nil}
use Rattle.esc_base.specs.Flash.{Told}
use Rattle.settings_block.specs.declared.stored.Loaded.{Loaded}
use Rattle.esc_laws.specs.Saves.{FlashFits}
use Rattle.esc_laws.specs.Steps.{Turned, journal}
use Rattle.esc_laws.proofs.Opening.{first_in_range}
use Rattle.esc_rooms.proofs.log.Carried.{legal_logged}
use Rattle.esc_rooms.proofs.log.Start.{logged_start}
use Rattle.esc_rooms.proofs.main.Saves.{first_unsaved, fits_start}
use Rattle.trace_runner.proofs.state.Runner.start.Goals as goal

start_flash : (loaded : Loaded) (first : Told) → FlashFits loaded first first (journal loaded [])
start_flash loaded first = fits_start loaded first (journal loaded []) (first_unsaved loaded.fault)

pub returns-clause-stands : goal.returns-clause-stands
returns-clause-stands c = λ first. record {
  runs = record {
    logged = rw (c.new-2.ensures.firmware, c.new-2.ensures.none_open, c.write.ensures, c.new-regs.ensures, c.new.ensures)
        (logged_start c.args.loaded c.room.inside.packets _ _ c.room.invariant);
    bound = record { apart = tt; below = All-nil (λ (e : Turned). e.tick < 0); few = All-nil (λ (e : Turned). length e.notes ≤ 6) };
    spaced = All-nil (λ (e : Turned). e.tick + c.args.cfg.cost ≤ 0);
    in_range = first_in_range c.args.loaded.fault;
    flash = start_flash c.args.loaded first;
  };
  reached = omega arith;
}

pub returns-clause-legal : goal.returns-clause-legal
returns-clause-legal c =
    rw c.new-2.ensures.nest
    (legal_logged c.args.loaded _ _ [] 0 _ _ [] [] 0 c.requires.some c.requires.most (omega arith) (All-nil (λ (e : Turned). e.tick < 0))
    (first_in_range c.args.loaded.fault)
    (logged_start c.args.loaded c.room.inside.packets _ _ c.room.invariant))

pub returns-clause-flash : goal.returns-clause-flash
returns-clause-flash c = λ first. start_flash c.args.loaded first
