-- The reports of the modes.
use Rattle.std.specs.Prelude.{ℕ, ◌*◌, List, ◌++◌, length, codes, decimal}
use Rattle.std.specs.List.{enumerate_from, flat_map}
use Rattle.lb_trace.specs.Hex.{hex_word}
use Rattle.lb_syntax.specs.Names.{Text}
use Rattle.lb_syntax.specs.Tree.{Procedure}
use Rattle.lb_syntax.specs.Needs.{code_need}
use Rattle.lb_syntax.specs.declared.layout.FrameLayout.{FrameLayout}
use Rattle.lb_rv.specs.Listing.{listing_line}
use Rattle.lb_image.specs.declared.image.Image.{Image}

-- the line `ok functions F words W stack S`, of a program that asks for this many bytes of stack
abbrev pub check_report : List Procedure → ℕ → Text
check_report p stack =
    codes "ok functions " ++ (decimal (length p) ++ (codes " words " ++ (decimal (code_need p)
    ++ (codes " stack " ++ (decimal stack ++ codes "\n")))))

-- the offset of a site behind a blank
abbrev pub site_part : ℕ → Text
site_part offset = codes " " ++ decimal offset

-- the line `frame SIZE`, with the offset of each site
abbrev pub frame_line : FrameLayout → Text
frame_line frame =
    codes "frame " ++ (decimal frame.size ++ (flat_map site_part frame.sites ++ codes "\n"))

-- the line of a word, which has this number in the code
abbrev pub code_line : ℕ × ℕ → Text
code_line word = listing_line (4 * word.0) word.1

-- a line for each word of the code, the first of them at address 0
abbrev pub code_lines : List ℕ → Text
code_lines words = flat_map code_line (enumerate_from 0 words)

-- the lines `entry E`, one for each function's frame, and one for each word of the code
abbrev pub list_report : Image → Text
list_report i =
    codes "entry " ++ (hex_word i.entry ++ (codes "\n" ++ (flat_map frame_line i.layout.frames
    ++ code_lines i.code)))
