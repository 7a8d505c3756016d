-- What the special commands ask for.
use Rattle.std.specs.Prelude.{◌≤◌, ℕ, true, false, ◌==◌, ◌&&◌, nat_le, if◌then◌else◌, Option, Some, None, option_and_then}
use Rattle.dshot_commands.specs.declared.act.Act.{Act}
use Rattle.dshot_commands.specs.declared.act.Act.TheVariants.{Beacon, Direction, ThreeD, Save, Extended, Spin}

-- what the command with this number asks for; a command with another number never acts
abbrev pub act_of : ℕ → Option Act
act_of n =
    if nat_le 1 n && nat_le n 5 then Some (Beacon n)
    else (if n == 7 then Some (Direction 0)
    else (if n == 8 then Some (Direction 1)
    else (if n == 9 then Some (ThreeD false)
    else (if n == 10 then Some (ThreeD true)
    else (if n == 12 then Some Save
    else (if n == 13 then Some (Extended true)
    else (if n == 14 then Some (Extended false)
    else (if n == 20 then Some (Spin 0)
    else (if n == 21 then Some (Spin 1)
    else None)))))))))

-- the number of the command that asks for this
abbrev pub number_of : Act → ℕ
number_of (Beacon beacon) = beacon
number_of (Direction side) = if side == 0 then 7 else 8
number_of (ThreeD false) = 9
number_of (ThreeD true) = 10
number_of Save = 12
number_of (Extended true) = 13
number_of (Extended false) = 14
number_of (Spin side) = if side == 0 then 20 else 21

-- a command asks for it: beacons are 1 to 5, directions and spins 0 and 1
abbrev pub IsInRange : Act → Type 0
IsInRange (Beacon beacon) = (1 ≤ beacon) × (beacon ≤ 5)
IsInRange (Direction side) = side ≤ 1
IsInRange (Spin side) = side ≤ 1
IsInRange act = Unit {0}

-- the frame, counted from 1 among the equal still frames in a row, at which it acts
abbrev pub frames_needed : Act → ℕ
frames_needed (Beacon beacon) = 1
frames_needed act = 6

-- what command n does at this frame of the equal still frames in a row; it acts once in a row
abbrev pub acting : ℕ → ℕ → Option Act
acting frames n = option_and_then (λ act. if frames == frames_needed act then Some act else None) (act_of n)
