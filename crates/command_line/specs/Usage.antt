-- The usage note: a line for each form.
use Rattle.std.specs.Prelude.{ℕ, List, ◌++◌, codes}

abbrev pub usage_note : List ℕ
usage_note =
    codes "usage: panto run [--book FILE] [--entries N] [--workers N]\n"
    ++ codes "       panto serve --listen ADDRESS [--book FILE] [--entries N] [--workers N] [--sessions N]\n"
    ++ codes "       panto check FILE\n"
    ++ codes "       panto demo SEED COUNT\n"
