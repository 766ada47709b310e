mod Definitions
