-- What the arguments after the program's own name ask for, read from left to right.
use Rattle.std.specs.Prelude.{ℕ, Bool, true, false, ◌||◌, is_some, List, [], ◌∷◌, Option, None, Some, option_map, Result, Ok, Err, codes, bytes_eq, nat_eq, if◌then◌else◌}
use Rattle.std.specs.List.{starts_with}
use Rattle.yongidra.specs.declared.command_line.Request.{Request}
use Rattle.yongidra.specs.declared.command_line.Request.TheVariants.{Help, Version, Compile}
use Rattle.yongidra.specs.declared.command_line.Mistake.{Mistake}
use Rattle.yongidra.specs.declared.command_line.Mistake.TheVariants.{NoImage, NoSuchOption, ManyFiles, NoFile}

-- to compile names the file of the program and, if there is one, that of the image
pub data Wanted : Type 0 where
  help : Wanted
  version : Wanted
  compiled : List ℕ → Option (List ℕ) → Wanted
  mistaken : Mistake → Wanted

abbrev pub wanted : Result Request Mistake → Wanted
wanted (Ok Help) = help
wanted (Ok Version) = version
wanted (Ok (Compile program image)) = compiled program.now (option_map (λ name. name.now) image)
wanted (Err mistake) = mistaken mistake

-- no argument is left; due says whether the last one was -o
abbrev pub ended : Bool → Option (List ℕ) → Option (List ℕ) → Wanted
ended true program image = mistaken NoImage
ended false None image = mistaken NoFile
ended false (Some name) image = compiled name image

-- the arguments that are left, after those that named this program and this image
abbrev pub asked : Bool → Option (List ℕ) → Option (List ℕ) → List (List ℕ) → Wanted
asked due program image [] = ended due program image
asked true program image (name ∷ args) = asked false program (Some name) args
asked false program image (arg ∷ args) =
    if bytes_eq arg (codes "--help") || bytes_eq arg (codes "-h") then help
    else if bytes_eq arg (codes "--version") || bytes_eq arg (codes "-V") then version
    else if bytes_eq arg (codes "-o") then asked true program image args
    else if starts_with nat_eq arg (codes "-") then mistaken NoSuchOption
    else if is_some program then mistaken ManyFiles
    else asked false (Some arg) image args
