mod Calls
mod Printed
