-- The texts of why an evaluation gave no value.
use Rattle.std.specs.Prelude.{List, [], ◌∷◌, ◌++◌, map, codes}
use Rattle.std.specs.Fmt.{decimal}
use Rattle.mx_value.specs.declared.node.Node.{Node}
use Rattle.mx_value.specs.declared.fault.FaultKind.{FaultKind}
use Rattle.mx_value.specs.declared.fault.FaultKind.TheVariants as fault
use Rattle.mx_value.specs.declared.refusal.EvalRefusal.{EvalRefusal}
use Rattle.mx_value.specs.declared.refusal.EvalRefusal.TheVariants as refusal
use Rattle.mx_print.specs.Texts.{Text, separated}
use Rattle.mx_print.specs.Values.{node_text}

abbrev pub fault_text : FaultKind → Text
fault_text fault.ZeroDivision = codes "ZeroDivision"
fault_text fault.Overflow = codes "Overflow"
fault_text fault.TypeMismatch = codes "TypeMismatch"
fault_text fault.NoIndex = codes "NoIndex"
fault_text fault.Domain = codes "Domain"
fault_text fault.TooLarge = codes "TooLarge"
fault_text fault.NoName = codes "NoName"
fault_text fault.NotCallable = codes "NotCallable"
fault_text fault.WrongCountInside = codes "WrongCountInside"
fault_text fault.NoneReturned = codes "NoneReturned"
fault_text fault.UnsetLocal = codes "UnsetLocal"
fault_text fault.BadItem = codes "BadItem"

-- the first node again, behind the others
abbrev pub way_back : List Node → Text
way_back [] = []
way_back (n ∷ ns) = codes " -> " ++ node_text n

abbrev pub ring_text : List Node → Text
ring_text nodes =
    codes "ring " ++ (separated (codes " -> ") (map node_text nodes) ++ way_back nodes)

-- why an evaluation gave no value; want of memory has no text
abbrev pub refusal_text : EvalRefusal → Text
refusal_text refusal.NoSuch = codes "no such node"
refusal_text refusal.WrongCount = codes "wrong count"
refusal_text (refusal.Fault kind n line) =
    codes "fault " ++ (fault_text kind ++ (codes " at "
    ++ (node_text n ++ (codes " line " ++ decimal line))))
refusal_text (refusal.Ring nodes) = ring_text nodes
refusal_text (refusal.TooDeep n) = codes "too deep at " ++ node_text n
refusal_text refusal.Full = codes "full"
refusal_text refusal.NoMemory = []
